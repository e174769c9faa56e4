-- appends one after the other
pub mod Appends
-- fronts of files
pub mod Fronts
-- texts that are written one behind another, and put
pub mod WroteLaws
-- texts that are written to a file of a shelf
pub mod FileLaws
-- a text that is written part by part
pub mod SoFar
-- calls that write one behind another
pub mod WritesLaws
