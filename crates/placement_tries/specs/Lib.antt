-- how many rows each try has
pub mod RowCounts
-- how large the layout of a placement is likely to be
pub mod Estimate
-- the seeds of tries, and which of them is taken
pub mod Taking
