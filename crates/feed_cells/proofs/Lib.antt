-- each pin has a position on an edge, and stands in a row
pub mod PinEdges
-- the channels that nets stand in, and the pins that touch them
pub mod CrossingLaws
-- what stands in rows with their feeds
pub mod FedLaws
-- nets that stand in channels, and nets that are alone
pub mod NetLaws
-- how far the pins of a net reach, and the pins and nets of a placement
pub mod PlacementLaws
-- how wide rows with feeds can be
pub mod FedWidths
-- the rows with feeds, their widths and their nets are those of the definition
pub mod RowFeedLaws
-- what stands in a row with its feeds
pub mod Standing
-- over which edge a pin touches a channel
pub mod Touching
-- pins that all touch one channel, and pins that are spread over several
pub mod ChannelSpans
