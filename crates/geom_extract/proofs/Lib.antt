-- one shape reached, and what it leaves
pub mod Reached
-- that a walk which has come to its end leaves classes settled
pub mod Settled
-- rectangles of layers and places among ties that meet
pub mod Meetings
-- layers that conduct to one another
pub mod Conducting
-- what leads to a shape in a web
pub mod WebSides
-- the links of a web of shapes
pub mod Links
-- that the classes of a web of shapes are those of its chains
pub mod ShapeWebs
-- that chains over the ties of a layout are those of joined shapes
pub mod JoinedShapes
-- the first positions of terminals
pub mod FirstPlaces
-- lists of the ties in cells
pub mod TieLists
-- where cells stand among a layout's shapes
pub mod Standing
-- the kinds of instances, and the positions of pins
pub mod PinPlaces
-- chains of shapes, further and back
pub mod Chains
-- that the ties in all cells are those of a layout
pub mod CellJoins
-- that numbers by chains are those of joined shapes and pins
pub mod Extracting
-- the ties of a layout
pub mod Ties
-- walks that have gone on
pub mod Gone
