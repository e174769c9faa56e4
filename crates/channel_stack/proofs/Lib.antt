-- how high and how wide a stack is
pub mod StackBounds
-- how high and how wide routed designs are
pub mod Heights
-- the lower edges of channels
pub mod PlanBases
-- the items of a row, and the wires that are drawn for them
pub mod RowItems
-- the risers of a row, and where their nets enter the channel above
pub mod RiserLaws
-- rows are as high as their highest cells
pub mod RowHeights
-- an item as a seat, and what it draws within that
pub mod PlanSeats
-- what stands on an edge of a row, as a wire that comes there
pub mod PlanEntries
-- the risers of row k, and the pins that they rise from
pub mod RowRisers
pub mod RiserPins
-- rows and channels as a plan
pub mod StackPlan
-- the pins of positions
pub mod PositionPins
-- a seat stands once among the items of a row
pub mod SeatOnce
-- the rectangles of a row, and the channels that they enter
pub mod RowWires
-- the seats of pins, the feeds of rows, and the nets of entries
pub mod RowPins
-- how the nets of a wired design thread its channels
pub mod PlanThreads
-- a symbol that is copied to its place
pub mod PlacedShapes
-- where instances are seated, and that each item has a drawing, which at its place is what is drawn for it
pub mod KnownItems
-- the shapes of a layout are the rectangles of its plan
pub mod LayoutShapes
-- where the cells of a layout stand
pub mod LayoutCells
-- the positions of seats are drawn in their cells
pub mod LayoutDraws
-- the cells of a layout have the instances' names, each once
pub mod CellNames
-- the layout shows the pins of its design, and its cells are copies of the kinds
pub mod LayoutShows
-- the cells and feeds of a layout stand in rows
pub mod LayoutRows
-- the cells of the lowest and of the highest row
pub mod RowEdges
-- wired channels make a good layout
pub mod GoodStack
-- the layout as a plan of rows and channels, with the nets of its rectangles
pub mod Planned
-- which shapes draw the positions of seats
pub mod Shown
