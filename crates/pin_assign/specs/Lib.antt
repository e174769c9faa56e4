-- which pin enters which channel
pub mod Entering
-- the tables of the channels
pub mod Tables
-- how many channels there are, how wide they are, and how many nets they have
pub mod ChannelTables
-- the size that a layout is within
pub mod Bounds
-- sizes of rows with feeds that keep the bound of a layout below 2 ^ 64
pub mod Bounded
-- what enters a channel, by a table of the instances' pins
pub mod Tabled
