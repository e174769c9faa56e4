-- a set of borrowed names, as its texts
pub mod TextLaws
-- the place of a name among those mentioned
pub mod Mentioned
-- names that are all different
pub mod Different
