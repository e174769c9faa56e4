-- what makes two lists of pins a channel
pub mod PairLaws
-- places in a list of nets in number order
pub mod PlaceLaws
-- the nets of a channel, by sorting its pins
pub mod ListingLaws
-- reaches of nets
pub mod ReachLaws
-- the nets over a column, by what begins and ends there
pub mod DensityLaws
-- a worked channel
pub mod Worked
-- the nets of a channel are one list
pub mod NetLists
-- the nets of a channel as a function of its pins
pub mod NetsOf
