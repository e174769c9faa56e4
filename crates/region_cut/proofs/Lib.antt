-- the ends of steps, and what a wire covers
pub mod StrokeLaws
-- blocks, filled and maximal ones
pub mod BlockLaws
-- blocks that can grow, and blocks that cannot
pub mod GrowthLaws
-- the maximal blocks of one lower left corner, by their upper sides
pub mod RowLaws
-- the next columns that are filled less far up
pub mod FallLaws
-- the maximal blocks of one lower left corner, one after the other
pub mod CornerLaws
-- the blocks found, the last one first
pub mod FoundLaws
-- cells that edges flip
pub mod CellLaws
-- how far up columns stay filled
pub mod CeilingLaws
-- all maximal blocks
pub mod MaximalLaws
-- lines, each below the next
pub mod LineLaws
-- the rectangles of a polygon
pub mod PathLaws
-- the lines of areas
pub mod AreaLaws
-- cells that rectangles mark
pub mod MarkLaws
-- how far right rectangles reach
pub mod ReachLaws
-- the sides of blocks
pub mod SideLaws
-- rectangles merged
pub mod MergedLaws
-- the points of rectangles merged
pub mod CoverLaws
-- definitions on small examples
pub mod Worked
