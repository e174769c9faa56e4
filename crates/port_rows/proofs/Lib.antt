-- ports that were worked by hand
mod Worked
-- answers for the ports of a design
pub mod PortsAnswer
pub mod PortsHave
-- what a design on the grid has
pub mod GridLaws
-- the words of pins in a design with ports
pub mod WordLaws
-- rows with those of ports
pub mod RowLaws
-- the rows of ports are at the edges
pub mod PortEdges
-- what a design has that was made with its ports
pub mod PortedMade
-- the design with its ports is a good one
pub mod GoodPorted
-- the kinds of ports
pub mod PortKinds
-- the nets of ports
pub mod MoreNets
-- the pins of ports
pub mod PortPins
-- as many kinds as instances at most
pub mod KindsFew
-- the names of ports
pub mod NameLaws
