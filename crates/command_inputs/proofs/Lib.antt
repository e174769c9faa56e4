-- contents within the limits of files, and what they state
pub mod LimitLaws
-- what was read, and what stopped a reading
pub mod ReadingLaws
-- the layout that a file's commands give
pub mod LayoutLaws
-- the netlist that a file's bytes give
pub mod NetlistLaws
-- rules and a design that are what files say
pub mod OriginLaws
