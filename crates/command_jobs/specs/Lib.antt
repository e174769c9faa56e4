-- the job, its rows, its routed channels and its text
pub mod Job
pub mod Rows
pub mod Text
pub mod Tries
-- the layout in short
pub mod Summarized
-- a placement that was made, and what watches that
pub mod Placed
pub mod Handed
-- the limits of a job
pub mod Limits
-- a job that is ready to be written, and its text written
pub mod PreparedView
pub mod Written
