-- numbers of those that fail, one after another
pub mod FailingLaws
-- rectangles that hold others
pub mod Holding
-- pairs that fail, by members that crowd
pub mod Crowding
-- wires and cuts, each layer in a plane of its own
pub mod Layers
-- numbers of rows, by the heights at which they stand
pub mod RowNumbers
-- outlines that overlap or are out of row
pub mod OutlineLaws
-- rectangles that lie apart, and those of rows
pub mod RowGaps
-- what the definitions mean, for those above
pub mod Laws
