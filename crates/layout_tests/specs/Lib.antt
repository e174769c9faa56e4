-- rows whose seats are mirrored
pub mod Mirrored
