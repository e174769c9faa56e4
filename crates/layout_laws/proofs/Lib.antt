-- rectangles that meet, lie apart or enclose one another
pub mod Rectangles
-- rectangles that touch are of one net
pub mod TouchLaws
-- a layout whose shapes have nets is wide, keeps its spaces, and joins the pins of each net
pub mod LabelLaws
-- a strip on a strip, and a drawn channel as a strip
pub mod StripLaws
-- a row without wires under a strip
pub mod BareLaws
-- one net in each column of a row's edges
pub mod SeatLaws
-- a row as a strip
pub mod RowLaws
-- rows and channels on one another
pub mod PlanLaws
-- chains of rectangles, forwards and backwards
pub mod ChainLaws
-- the rectangles of one net in a channel are chained
pub mod ChannelChains
-- in which channel or row a rectangle of a plan stands
pub mod PlanPlaces
-- wires of rows touch the wires of the channels that they enter
pub mod EntryTouches
-- the rectangles of one net of a plan are chained
pub mod ThreadLaws
-- rectangles of one net that touch, or draw one terminal
pub mod Chains
-- a layout whose shapes have nets
pub mod Labels
-- a band of a layout between two edges, and what it keeps from its neighbours
pub mod Strips
-- how a net threads its channels and rows
pub mod Threads
pub mod Uprights
-- rows and channels on one another
pub mod Plans
-- a row of seats side by side, with the vertical wires that stand in them
pub mod Seats
