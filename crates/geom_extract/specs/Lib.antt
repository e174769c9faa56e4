-- links between shapes by rectangles that meet, and chains of them
pub mod Webs
-- a walk along such chains
pub mod Walks
pub mod WalkView
pub mod ClassesView
-- layers, each in a plane of its own
pub mod Planes
-- what a shape asks for others with
pub mod Asking
-- shapes that touch or are tied, and their web
pub mod Touching
pub mod TiedView
-- where positions are drawn, and the ties in cells
pub mod CellTies
pub mod PlacesView
-- numbers of shapes and pins
pub mod Extracts
