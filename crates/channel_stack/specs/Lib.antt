-- risers: wires from the pins of lower cells to the upper edge of their row
pub mod Risers
-- rows and channels on one another
pub mod Stack
pub mod StackView
pub mod LaidView
-- the layout that a stack is
pub mod Layouts
-- the cells of the lowest and of the highest row of a layout
pub mod RowEdges
-- wirings for all channels, and stacks of them
pub mod Routed
