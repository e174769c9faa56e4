-- names as text of XML are plain
pub mod EntityLaws
-- the scale bar, by powers of ten
pub mod Bars
-- texts of those items of a list that pass a test
pub mod Filtered
