-- the shapes of a layer as the areas that they cover
pub mod Areas
-- cells that cover what their kinds' drawings do
pub mod Drawn
-- layouts whose shapes are merged
pub mod MergedLayout
-- layouts that can be merged
pub mod Near
