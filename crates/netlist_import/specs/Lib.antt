-- refusals, and items that are read one by one
pub mod Faults
-- words that are one net, and the word that each net goes by
pub mod Nets
-- the cells of a netlist, with their terminals
pub mod Cells
-- constant nets that no gate drives
pub mod Constants
-- gates as calls
pub mod Calls
-- the PARENT of a netlist
pub mod Parent
-- what a PARENT has to do with the netlist that it was made of
pub mod Carries
