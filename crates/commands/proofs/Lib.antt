-- how a command ends by what was found, and what is said of it
pub mod Endings
-- what the status and the lines of a command tell of its end
pub mod Tellings
-- from the files of a job and of a layout to the headline
pub mod HeadlineLaws
-- what was done where a command was stopped early, and for the command that words give
pub mod CarriedLaws
-- what was done for a command that writes a text
pub mod WrittenTexts
-- what was put of notes
pub mod NotedLaws
