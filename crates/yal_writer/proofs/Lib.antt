-- tokens that say the same, and readings that follow one another
pub mod Alike
pub mod FollowWords
pub mod FollowSections
-- the tokens of a text that is printed
pub mod Printed
-- the reading of a PARENT's tokens
pub mod Stated
-- a PARENT behind the text of its cells reads back
pub mod ReadBack
-- the text of a PARENT in its parts
pub mod TextParts
