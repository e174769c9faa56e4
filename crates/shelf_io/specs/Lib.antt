-- when a count of faults has risen, and when it has not
pub mod Count
-- what a shelf or a sink tells of its bytes, before a call and after it
pub mod Told
-- bytes that go behind those that were buffered
pub mod Appends
-- a text that is written to a sink, or not to its end
pub mod Wrote
-- lines of words
pub mod Lines
-- what a put to a file leaves as it was on a shelf
pub mod OtherFiles
-- the answers of `load`
pub mod Loading
-- the failures that an object in memory is told to make
pub mod Plan
-- files in memory
pub mod Files
-- the shelf in memory
pub mod MemShelf
-- the sink in memory
pub mod MemSink
-- the shelf that never fails
pub mod NeverShelf
