-- lists that are lengthened
pub mod ReachLaws
-- options that are picked
pub mod PickLaws
-- lines of tracks, what ascends, and windows of lines
pub mod LineLaws
pub mod AscentLaws
pub mod WindowLaws
-- places of new tracks
pub mod PlaceLaws
-- lists of uses, and where a net has its next pins by one
pub mod UseLaws
pub mod AheadLaws
pub mod StartLaws
pub mod LastLaws
-- the joins of a column
pub mod JoinLaws
-- sorted numbers, and tracks that are freed one after another
pub mod SortedLaws
pub mod FreedLaws
-- neighbouring tracks, and the groups that end
pub mod DeskLaws
pub mod MarkLaws
pub mod PairLaws
pub mod EndLaws
pub mod LoneLaws
-- the moves of a column
pub mod AloneLaws
pub mod MoveLaws
pub mod SplitLaws
pub mod StretchLaws
pub mod WaitingLaws
pub mod OrderLaws
-- what the steps make
pub mod FollowLaws
-- ids and nets of tracks, kept by a column
pub mod IdLaws
pub mod NetLaws
-- states, and records for the pins of a channel
pub mod StateLaws
-- ids, lines and nets of tracks, tracks given at their lines, and the verticals of pins by lines; neighbouring tracks; what the steps draw; a record is joined
pub mod TableLaws
pub mod PlacedLaws
pub mod PinSpanLaws
pub mod NeighbourLaws
pub mod DrawnLaws
pub mod JoinedLaws
-- a record is lawful: what is made, its entries, joins and moves
pub mod MadeLaws
pub mod PartLaws
pub mod LaterLaws
pub mod EntryLaws
pub mod EntersLaws
pub mod LawfulLaws
pub mod HeldLaws
pub mod CrossLaws
pub mod PinLaws
pub mod MovedLaws
-- it spares tracks
pub mod SpareLaws
pub mod SparingLaws
-- one track is kept of each group: what is linked, lines of groups, and what ends of a group
pub mod GroupLaws
pub mod HeldLineLaws
pub mod ChainLaws
pub mod GroupEndLaws
pub mod KeepLaws
-- a record is fair
pub mod FairLaws
-- who holds a track once a column's pins have entered, how many are held, and a column past the channel's end leaves fewer of them
pub mod EnteredLaws
pub mod VerticalLaws
pub mod NoPinLaws
pub mod HeldCountLaws
pub mod EndsLaws
-- the records of a worked channel: they follow the steps, and what is fair
pub mod Worked
