-- bytes between the quotes of a text value
pub mod Escaped
-- lengths in microns
pub mod Microns
-- the value of a box
pub mod Boxes
-- what a file holds that could not be written whole
pub mod Held
