-- what a BLIF text is read as, from its bytes to its file
pub mod BlifReads
-- what is wrong with a text
pub mod Flaws
-- comments and continued lines as blanks, and the bytes that may stand outside comments
pub mod Text
-- words and the ends of lines with their places
pub mod Tokens
pub mod Seen
-- the grammar: words, pins, and the lines of a model
pub mod Words
pub mod Lines
pub mod Parts
-- what a file that was read always has
pub mod Kept
