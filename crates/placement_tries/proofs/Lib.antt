-- the height of rows, and of channels that take as many tracks as their densities
pub mod EstimateLaws
-- the numbers of rows that are tried
pub mod RowLaws
-- the first of least estimate
pub mod FirstLeast
-- worked numbers of rows, seeds and estimates
pub mod Worked
