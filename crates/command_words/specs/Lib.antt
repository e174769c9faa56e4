-- numbers that words ask for
pub mod NumberWord
pub mod RowCountView
pub mod TryCountView
pub mod MadeCountView
-- the arguments of commands, and boxes that words ask for
pub mod Arguments
pub mod Boxes
-- the commands, and what their words give
pub mod Drawing
pub mod Importing
pub mod Command
pub mod Seen
pub mod Taken
