-- words and modules that YAL can write
pub mod Writable
-- the text of a PARENT
pub mod ParentText
-- a PARENT behind the text of its cells reads back
pub mod ReadsBack
