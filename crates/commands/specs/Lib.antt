-- what a command comes to, and the verdict on words and files
pub mod Accepted
pub mod Verdict
-- how a command ends
pub mod Done
pub mod Ends
pub mod Causes
pub mod Noted
pub mod Outcome
-- the picture of a layout, and a design that comes from a netlist
pub mod Drawn
pub mod Imported
-- the headline: what is written reads as a good layout of the design
pub mod Headline
-- what a command has done to files and what it keeps, by how it ended, and what was done for a command's words
pub mod Changes
pub mod Carried
