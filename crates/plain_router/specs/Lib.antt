-- the wiring of the plain router
pub mod Plain
