-- worked wirings: their rectangles, and that they lie on their grids
pub mod Worked
