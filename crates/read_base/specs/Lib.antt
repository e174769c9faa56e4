-- one step after another
pub mod Steps
-- a flaw by its place from the front of a text
pub mod Placed
-- what a function answers, beside what is said
pub mod Answers
-- the number that digits write
pub mod Digits
