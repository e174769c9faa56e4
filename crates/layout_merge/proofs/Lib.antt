-- cells and their shapes, one after another
pub mod PlacedLaws
-- what lies outside of cells
pub mod OutsideLaws
-- what is merged stays within reach
pub mod ReachLaws
-- a merged layout can be checked
pub mod MeasuredLaws
