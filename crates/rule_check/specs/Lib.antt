-- the members of a list that fail, and the pairs of members that fail with each other
pub mod Failing
-- shapes that are too narrow, and cuts that are not enclosed
pub mod Narrow
-- shapes that are too close, and outlines that overlap or are out of row
pub mod Crowded
-- the rectangles of a layer's shapes, and whether one holds a given one
pub mod Covers
-- shapes and outlines as members that keep their distance
pub mod Members
-- rows by the height at which they stand
pub mod Rows
