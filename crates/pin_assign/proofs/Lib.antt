-- which pins enter a channel, and by what a net crosses a row
pub mod EnteringLaws
-- why a net has two entries in each of its channels
pub mod TwiceLaws
-- the pins of a design, and the positions that they have on an edge
pub mod EdgeLaws
-- how many entries rows and tables have
pub mod WidthLaws
-- where the entries of a row come from, and what each cause leaves
pub mod EntryLaws
-- the entries of tables and their causes
pub mod TableLaws
-- different causes stand in different columns
pub mod CauseLaws
-- two places of a net in a table
pub mod PlaceLaws
-- the places of a table and the causes that stand there
pub mod StandLaws
-- pins and feeds of a row stand in its columns, and in the tables of the channels beside it
pub mod BesideLaws
-- the table of each channel of placed rows makes a channel, whose nets are those that stand in it
pub mod ChannelLaws
-- how many channels there are, how wide they are, and how many nets they have
pub mod ChannelTables
-- rows with their feeds are of bounded sizes, and so is their layout
pub mod FedBounds
-- the entries of rows by tables
pub mod TabledEntries
-- why a net has entries in a channel
pub mod Causes
-- which nets the pins and feeds of a row leave in which columns
pub mod EntryForms
-- the places of a table
pub mod TablePlaces
-- the pins and feeds along a row
pub mod Sources
