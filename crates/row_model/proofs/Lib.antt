-- the kinds and widths of instances
pub mod WidthLaws
-- the rows that a design begins with
pub mod StartLaws
pub mod CountedLaws
-- rows that hold each instance once
pub mod PlacedLaws
-- where instances stand, and the seats there
pub mod StandLaws
-- each seat is where its instance stands
pub mod SeatLaws
-- the columns of pins in their cells
pub mod CellColumns
-- where pins stand by tables
pub mod PinLaws
-- rows after a change
pub mod ChangeLaws
pub mod SwapLaws
pub mod TwiceLaws
-- the definitions at small designs
pub mod Worked
