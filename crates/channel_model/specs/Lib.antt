-- the pins of a channel, and what makes two lists of pins a channel
pub mod Pins
pub mod ChannelView
-- the nets of a channel, from where to where a net has pins, and the density
pub mod Nets
pub mod Reach
pub mod Density
-- wirings, and when one connects a channel
pub mod Elements
pub mod Wired
-- how many tracks and columns a router may take
pub mod Limits
