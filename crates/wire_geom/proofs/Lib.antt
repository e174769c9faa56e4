-- boxes that lie apart, and boxes that share a point
pub mod BoxLaws
-- the grid's columns and lines, and the halos of patches
pub mod GridLaws
-- elements as patches of the grid
pub mod PatchLaws
-- the ends of vertical wires, and what each piece of an element keeps
pub mod EndLaws
pub mod PieceLaws
-- half units in half centimicrons
pub mod ScaleLaws
-- where the rectangles of a wiring stand in its drawing
pub mod DrawingPlaces
-- what the rectangles of a wiring keep
pub mod DrawingLaws
