-- the lists that a choice may be asked, and its answers
pub mod Answers
-- what the choices of each style answer
pub mod Styles
