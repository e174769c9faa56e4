-- the steps of a path
pub mod Steps
-- the rectangles of a wire
pub mod Strokes
-- blocks of cells, and those of them that lie in no other
pub mod Blocks
-- lines, the cells between them, and the maximal blocks of these
pub mod Grids
-- the lines and the cells of a closed path
pub mod Cells
-- the lines and the cells of rectangles
pub mod Covered
-- the grids of areas
pub mod Areas
-- how far up columns stay filled
pub mod Ceilings
-- columns that are filled less far up than one before them
pub mod Falls
-- the rectangles of a polygon
pub mod Maximal
-- rectangles merged
pub mod Merged
