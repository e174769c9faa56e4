-- the tracks after each column of a sweep, and how many of them are held
pub mod Moments
-- the records that a sweep is of, and when it has ended or passes its limits
pub mod Sweeps
-- how many free tracks a sweep begins with
pub mod Begun
-- the wiring of a sweep that has ended
pub mod SweepWiring
-- what the calls answer
pub mod Answers
-- marks of tracks by their ids
pub mod Marks
-- the same wiring, from tables by ids
pub mod Tables
-- the tables from column to column
pub mod Turns
-- the final order of the tracks, with a table of their lines
pub mod FinalOrder
-- columns without pins in which nothing happens
pub mod Idle
-- whether a sweep goes on
pub mod Running
-- a sweep that was made, and how the channel is routed by it
pub mod Runs
-- the same as the program has it, beside its facts
pub mod RunView
-- which of two routed channels is kept
pub mod Planning
-- lists that lie one behind another
pub mod Packed
-- the records of columns, from lists that lie together
pub mod Columns
