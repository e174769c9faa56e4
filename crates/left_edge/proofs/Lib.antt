-- the nets of columns
pub mod ColumnLaws
-- the spans of nets
pub mod SpanLaws
-- tracks and the nets that hold them
pub mod TrackLaws
-- lists of different numbers, and the greatest value of a function
pub mod ListLaws
-- the nets over a column, and the number of tracks
pub mod CountLaws
-- other wirings have no fewer tracks
pub mod LeastLaws
-- chains of elements
pub mod ChainLaws
-- what is made of the columns, one by one
pub mod ByColumnLaws
-- whose a point is
pub mod OwnerLaws
-- the wiring is Wired
pub mod WiredLaws
-- it has one Along for each net, and as many tracks as the density
pub mod SingleLaws
-- the first column of the most nets
pub mod FullnessLaws
-- the sweep that gives the tracks
pub mod SweptLaws
-- what is made of a pin
pub mod WireLaws
-- the wiring of a worked channel
pub mod Worked
