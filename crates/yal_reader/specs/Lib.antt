-- what a YAL text is read as, from its bytes to its file
pub mod YalReads
-- what is wrong with a text
pub mod Flaws
-- the ASCII test, and comments as blanks
pub mod Text
-- words and semicolons with their places
pub mod Tokens
pub mod Seen
-- the grammar: words, numbers, the lists of lines and calls, sections
pub mod Words
pub mod Numbers
pub mod Lists
pub mod Sections
-- what a file that was read always has
pub mod Kept
