-- the ports of a PARENT's lines, and their sides
pub mod Ports
-- the kinds, instances, pins and nets of ports
pub mod Added
-- the design with its ports, or the first refusal
pub mod Ported
-- the signal words of pins in a design with ports
pub mod PortWords
-- the rows of ports
pub mod PortRows
-- the design that is drawn, and the one that is placed
pub mod Designs
-- the names of ports by their sides
pub mod PortNames
pub mod PortsView
