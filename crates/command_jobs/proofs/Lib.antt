-- a layout whose size is not refused is within the limits
pub mod SizeLaws
-- the wirings of routed channels connect the channels of rows with feeds, within the bound
pub mod RoutedLaws
-- how many rows a job has
pub mod RowCounts
-- the cells of ports
pub mod PortCells
-- the tries of a job, and the placement of the one that is taken
pub mod TryLaws
-- a layout in short
pub mod SummaryLaws
