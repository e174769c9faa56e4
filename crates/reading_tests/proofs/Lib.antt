-- worked cells, and worked designs on the grid
pub mod CellSamples
pub mod GridSamples
