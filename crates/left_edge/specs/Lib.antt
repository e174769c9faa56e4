-- the net of a column, and columns with pins of two nets
pub mod Columns
-- from where to where a net reaches, the nets over a column, and the fullest column
pub mod Spans
-- which track a net is given
pub mod Tracks
-- the wiring
pub mod EdgeWiring
-- wirings with one Along for each net
pub mod Single
-- the sweep that gives the tracks
pub mod Swept
