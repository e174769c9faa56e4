-- what annealing weighs
pub mod Weights
pub mod WeightsView
-- what rows cost
pub mod Cost
-- rows that are weighed
pub mod WeighedRows
pub mod SpansView
-- where an instance stands, and tables of that
pub mod Spot
pub mod SpotView
pub mod Standings
-- the pins of nets and the nets of instances
pub mod NetPins
pub mod FlatLists
pub mod NetsView
-- the least and the greatest of numbers, and how far they are apart
pub mod Extreme
pub mod Extremes
pub mod Few
pub mod Spreads
pub mod SpreadsView
-- where the pins of nets stand
pub mod PinPlaces
-- what nets cost by a table of where instances stand
pub mod NetCosts
pub mod NetCostsView
-- numbers with their sum
pub mod SummedView
-- what a swap moves
pub mod Moving
-- the widths of rows, and how far they are from their target
pub mod RowLengths
pub mod RowLengthsView
-- tables of placed rows
pub mod Board
-- what a swap shifts, and what rows cost at least after it
pub mod Trial
