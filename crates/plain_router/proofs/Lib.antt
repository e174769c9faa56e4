-- what is made of the pins and of the nets, element by element
pub mod PinLaws
-- chains of elements
pub mod ChainLaws
-- who owns a point
pub mod OwnerLaws
-- each element is linked to its net's home
pub mod LinkLaws
-- the plain wiring is Wired
pub mod WiredLaws
-- the wiring of a worked channel
pub mod Worked
