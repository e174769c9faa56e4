-- what a list becomes when it is written through a lent slice, and how the list types lend their items
pub mod Written
pub mod Lending
-- names that YAL and CIF can write
pub mod Names
-- the names of layers, and how one is stored
pub mod LayerText
pub mod LayerView
-- rectangles, as their four sides, and what two of them have to do with each other
pub mod Extent
pub mod Rectangles
-- turns, as their four steps, and shapes under turns
pub mod Turning
pub mod Moving
-- numbers, rectangles and shapes within reach
pub mod Reach
