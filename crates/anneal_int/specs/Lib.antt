-- the table of thresholds, and which changes of the cost are taken by it
pub mod Threshold
pub mod Judging
-- the random words of a seed, and its changes
pub mod Words
pub mod Changes
-- how rows are annealed
pub mod Schedule
pub mod ScheduleView
-- the temperatures of the stages
pub mod Cooling
-- annealed rows
pub mod Annealed
-- the changes of a stage
pub mod Stages
