-- the channels that pins touch and that nets cross
pub mod Crossings
-- the first and the last channel of a net, and what they are of its pins
pub mod Channels
-- which net crosses which row by what, and where a feed stands
pub mod Feeds
-- where the pins and nets of a design in rows stand, and how far the pins of a net reach
pub mod Placement
pub mod Spans
pub mod NetTables
-- rows with their feeds
pub mod Fed
pub mod FedView
-- the feeds of a row by tables
pub mod RowFeeds
-- how wide rows are, and how many nets channels have
pub mod Sizes
