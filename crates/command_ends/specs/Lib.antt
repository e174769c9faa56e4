-- points that may refuse, and limits
pub mod Refusing
pub mod Limits
-- what a function answers, and what it finds in files
pub mod Answers
-- the status of a command, and its lines
pub mod Status
pub mod Line
pub mod FindingLines
pub mod Gains
