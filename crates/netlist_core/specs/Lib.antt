-- answers that may be a fault, and how the program's answers agree with them
pub mod Answers
-- the outline of a module
pub mod Outline
-- a module as a cell kind, and why it is none
pub mod Cells
-- calls of modules, and what may be wrong with them
pub mod Calls
-- the words at pins, and the nets that they make
pub mod Signals
-- the checked design of a file, or the first refusal
pub mod OnGrid
-- the signal words of pins
pub mod SignalWords
-- what the modules of a file and the calls of its PARENT have
pub mod Read
-- modules found by their names
pub mod LibraryView
-- the terminals of lines
pub mod TerminalsView
-- used modules with their numbers
pub mod NumberedView
-- what the checks before the used modules give
pub mod Checked
