-- laws of outlines
pub mod OutlineLaws
-- laws of loops that gather positions
pub mod Fronts
-- modules by their names
pub mod FoundModules
-- the names of used modules
pub mod UsedNames
-- answers of lists
pub mod EachLaws
-- the pins of instances
pub mod PinPlaces
-- the nets of pins
pub mod NetLaws
-- positions without a clash
pub mod ClashLaws
-- the parts of a module that is a kind
pub mod KindParts
-- terminals and their spots
pub mod TerminalLaws
-- positions and their spots
pub mod PositionLaws
-- what a kind is
pub mod KindLaws
-- used modules are STANDARD
pub mod StandardModules
-- the design of checked calls keeps what every design does
pub mod GoodNetlist
-- what the checks of calls give
pub mod CheckedCalls
-- outlines and the corners that they have
pub mod RingLaws
-- the kinds of a design have room for their pins
pub mod HighKinds
-- each kind is some instance's
pub mod UsesOfKinds
