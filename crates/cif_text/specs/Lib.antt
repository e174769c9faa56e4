-- how commands are printed
pub mod Printing
-- bytes and what separates numbers
pub mod Bytes
-- a step for each member of a list, and numbers
pub mod InOrder
pub mod Numbers
-- the forms of boxes, layers, definitions and user commands
pub mod Forms
-- the form of calls
pub mod Calls
-- the forms of wires and polygons
pub mod Paths
-- what the text of a label says
pub mod Labels
-- a command, by its first byte, and its faults
pub mod Flaws
pub mod Commands
-- the reading of a whole text
pub mod CifReads
-- the commands that a text can give
pub mod Sound
-- what a program that reads answers
pub mod Answers
-- the whole of a call's steps, as a program has it
pub mod Transforms
-- the commands whose printed text reads as they are
pub mod Printable
-- the numbers of boxes, wires, polygons and calls at a scale
pub mod Scales
-- symbols, and what stands behind some commands
pub mod Symbols
-- the layout that commands mean
pub mod Meaning
-- the shapes that commands draw
pub mod Bodies
-- the layout that a text reads as
pub mod ReadsAs
-- the commands of a written layout, and what they mean
pub mod Written
