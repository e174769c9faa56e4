-- tables of where instances stand
pub mod StandingLaws
-- numbers with their sum
pub mod SumLaws
-- what right tables say of instances
pub mod PlaceLaws
-- the least or the greatest of numbers as one of them changes
pub mod ExtremeLaws
-- lists of numbers side by side, and how far they spread in all
pub mod ExtremesLaws
-- the extremes of few numbers
pub mod FewLaws
pub mod SpreadLaws
-- seats that are put somewhere
pub mod PutLaws
-- what a swap moves
pub mod MoveLaws
pub mod OutsideLaws
pub mod ReachLaws
-- costs by tables
pub mod CostLaws
-- lists that lie one behind another
pub mod FlatLaws
-- the pins of instances by their places in nets, and where they stand once their instance is put elsewhere
pub mod PinTableLaws
pub mod PinPlaceLaws
-- all tables of weighed rows after a change
pub mod BoardLaws
pub mod SpansLaws
-- cells that are turned over
pub mod TurnLaws
-- what rows cost by their tables
pub mod TotalLaws
-- how much rows cost at most
pub mod BoundLaws
-- what a swap shifts, and how much rows then cost at least
pub mod EndLaws
pub mod JoinLaws
pub mod EdgeLaws
pub mod HitLaws
pub mod ShareLaws
pub mod NearLaws
pub mod TrialLaws
pub mod UnevenLaws
pub mod TradeLaws
-- the cost at small designs
pub mod Worked
