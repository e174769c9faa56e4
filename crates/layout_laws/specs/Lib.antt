-- how high a channel is
pub mod Heights
