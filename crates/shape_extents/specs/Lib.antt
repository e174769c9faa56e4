-- the least rectangles round two others, and round shapes
pub mod Extents
-- the shapes of a cell, and their extent
pub mod CellShapes
