-- what is gained of a line that is put to a sink
pub mod Puts
-- statuses of what stops a command
pub mod StopLaws
-- what was found in files, and what is said of them
pub mod FindsLaws
-- the line of a name that ports would have
pub mod ClashLine
