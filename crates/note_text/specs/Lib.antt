-- the text of lines
pub mod Lines
-- lines and places of a text
pub mod Places
-- bytes as they are shown
pub mod Shown
