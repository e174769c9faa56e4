-- worked wirings
pub mod Samples
