-- numbers that are picked by a test
pub mod Picking
-- the first of a group with those that differ from it
pub mod Firsts
-- groups in which no member differs from the first
pub mod Alike
-- nets and classes as groups of pins
pub mod PinGroups
-- tables of firsts, and lists of those that differ from them
pub mod Tables
-- lists with the same members
pub mod SameMembers
-- cells that are repeated
pub mod Repeats
-- nothing is found of cells just where they match
pub mod CellLaws
-- nothing is found of shapes that are too close just where all keep their spaces
pub mod SpaceLaws
-- nothing is found of nets just where pins are joined by nets
pub mod NetLaws
-- nothing is found just where a layout is good
pub mod GoodLaws
-- drawings lie within reach
pub mod DrawingReach
-- instances that are found by their names
pub mod Instances
