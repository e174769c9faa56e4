-- what a call that only reads does on a shelf, and what it says of a text
pub mod Reading
-- the names in the faults of a design
pub mod FaultName
-- the designs that a file of YAL gives: the one that is drawn, and the one that is placed
pub mod Drawn
-- what the files of rules and of a design state, and what the file of a layout says
pub mod Stated
pub mod LayoutFile
-- rules that a command is given or not, and what the file of a netlist and that of its cells say
pub mod GivenRules
pub mod NetlistFiles
-- rules and a design that are what two texts say
pub mod Origin
-- why files could not be read
pub mod Failures
