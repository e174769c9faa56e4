-- the order of the tracks at a moment and in the end
pub mod OrderLaws
-- how many tracks are made
pub mod CountLaws
-- who holds a track after the column
pub mod MovedLaws
pub mod LeftLaws
-- a sweep, column by column
pub mod CourseLaws
-- the elements of a sweep's wiring, column by column
pub mod PartLaws
-- the verticals of a column stand upright
pub mod VerticalLaws
-- the vias of a column
pub mod ViaLaws
-- the wires along the tracks
pub mod RunLaws
-- what is linked in a sweep's wiring
pub mod LinkLaws
-- elements that are linked to a track of their net
pub mod TiedLaws
-- the pieces of a net are tied to its tracks, or are one
pub mod PieceLaws
-- elements are on the grid, keep the edges, and are apart where their nets are
pub mod SoundLaws
-- the wiring of a sweep that has ended connects its channel
pub mod WiredLaws
-- past a channel's end each column leaves fewer tracks held
pub mod FewerLaws
-- the tables of a wiring, from column to column
pub mod TurnLaws
-- a column, by its tables
pub mod ByTableLaws
-- tables tell what the wiring is made of
pub mod TellLaws
-- tracks are never taken away
pub mod GrowLaws
-- the wiring, column by column
pub mod WiringLaws
pub mod WayLaws
-- columns without pins in which nothing happens
pub mod IdleLaws
-- a sweep, record by record
pub mod SweepLaws
pub mod GoingLaws
pub mod FewLaws
-- how a sweep ends
pub mod EndedLaws
-- a channel that is routed by a sweep
pub mod RoutedLaws
-- the left-edge router's wiring of a channel
pub mod EdgeLaws
-- the best of the sweeps that a plan tries
pub mod PlanLaws
pub mod RanLaws
-- no sweep of the plan has fewer tracks
pub mod FewestLaws
-- lists that lie one behind another
pub mod PackedLaws
-- the records of columns, from lists that lie together
pub mod ColumnsLaws
-- the wiring of a worked sweep
pub mod Worked
