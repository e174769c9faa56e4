-- the name of each style, what it may choose, and the sweeps that it tries
pub mod Stocks
