-- the texts of help
pub mod Texts
