pub mod Lexing
pub mod RunLaws
pub mod KeptLaws
