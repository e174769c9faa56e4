-- pins in the order of their instances and terminals
pub mod PairOrder
-- the pins of a design stand in order, one for each terminal that is no power
pub mod PinsInOrder
-- each pin is of an instance and is its terminal, and there are no more nets than pins
pub mod DesignPins
-- the heights of kinds, and the room that they have
pub mod RoomLaws
