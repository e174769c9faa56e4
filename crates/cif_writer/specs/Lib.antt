-- a text that is begun
pub mod Begun
-- the different heights of the rows in which feeds stand
pub mod FeedHeights
-- the labels of its cells and nets
pub mod Labels
-- the symbols of a placed design, and what stands at its main level
pub mod Symbols
-- the whole text of a placed design
pub mod LayoutText
-- a routed design that is drawn within reach
pub mod InReach
-- what labels are written from
pub mod LabelParts
