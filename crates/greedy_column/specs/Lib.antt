-- the tracks after some columns
pub mod Tracks
pub mod Replay
-- where a net has its next pins
pub mod Uses
pub mod Ahead
-- the verticals of a column
pub mod Verticals
-- a record is fair: lawful, sparing of tracks, joined, and with one track kept of each group
pub mod Neighbours
pub mod Lawful
pub mod Sparing
pub mod Keeping
pub mod Fair
-- a record is what the four steps make, each choice being an answer of the chooser
pub mod Lines
pub mod Places
pub mod Offers
pub mod Entering
pub mod Joining
pub mod Ending
pub mod Desk
pub mod Moving
pub mod Follows
-- how many tracks are held
pub mod Held
-- the states that a column begins with
pub mod State
