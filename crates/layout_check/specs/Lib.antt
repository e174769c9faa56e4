-- layouts that can be checked
pub mod Measured
-- cells that are missing, doubled, strange or drawn otherwise
pub mod CellFaults
-- nets that are open or short
pub mod NetFaults
-- the findings of a layout
pub mod Findings
-- groups of numbers, their firsts, and members that differ from these
pub mod Groups
-- the drawings of kinds, and cells with their shapes
pub mod Drawings
-- findings of a kind
pub mod Telling
