-- columns and lines in half units, and the rectangles of wires and cuts on them
pub mod Grid
pub mod Boxes
-- what a wiring is drawn as
pub mod Drawing
-- what the rectangles of a wiring that connects its channel keep: widths, spaces, the columns, the channel's edges, and contact
pub mod Widths
pub mod Spaces
pub mod Columns
pub mod Edges
pub mod Contact
