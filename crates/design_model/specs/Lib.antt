-- a checked design as plain lists, and what every one keeps
pub mod Netlist
pub mod DesignView
-- pins by their instances and terminals
pub mod PinOrder
-- nets as equal signal words
pub mod SameNet
-- the drawing of a cell kind
pub mod Drawing
-- the room that cells have for their pins
pub mod Room
-- the cells of a layout as the instances of a design
pub mod CellsMatch
-- shapes and pins that touching shapes join
pub mod Joined
-- a good layout
pub mod Good
