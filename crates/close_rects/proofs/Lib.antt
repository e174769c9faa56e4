-- rectangles within bounds, and windows that meet them
pub mod Windows
-- blocks whose nodes tell of them
pub mod Indexes
-- the rectangles that are left, and taking one
pub mod Sets
-- close rectangles, and windows that they meet
pub mod Closeness
-- the close pairs that a scan has still to give
pub mod Rows
-- that these are the close pairs
pub mod Pairs
pub mod Once
-- items that fit a scan, and its steps
pub mod Fits
-- what a taking leaves of a set, for those who use one
pub mod SetLaws
-- short rows that are decided
pub mod Worked
-- what the kin of blocks tell
pub mod KinLaws
-- members that are found by their items, in order
pub mod Placing
-- pairs that are gathered row by row
pub mod Gathering
-- rectangles in planes that meet or are close
pub mod PlaneLaws
