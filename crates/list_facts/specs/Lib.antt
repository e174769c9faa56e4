-- names in the order of their first mention
pub mod Names
-- a set of borrowed names, as its texts
pub mod Texts
-- lists by their numbers
pub mod Lists
