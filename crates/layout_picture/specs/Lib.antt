-- what is in a picture: its frame, and the shapes that are shown
pub mod Frame
-- names as text of XML
pub mod Entities
-- pieces of text
pub mod Pieces
-- rectangles, and those of shapes
pub mod Elements
-- the groups of cells, with their names
pub mod Cells
-- the style sheet: a colour for each layer
pub mod Styles
-- the legend
pub mod Legend
-- the scale bar
pub mod Scale
-- the parts of a picture that are the same for all layouts
pub mod Parts
-- the text of a picture
pub mod Pictures
