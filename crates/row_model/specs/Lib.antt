-- rows of seats, and rows that hold each instance of a design once
pub mod Rows
pub mod RowsView
-- the widths of instances and rows in columns
pub mod Widths
-- the rows that a design begins with, and how many
pub mod Start
-- where instances and pins stand
pub mod Stand
pub mod StandView
pub mod Stands
pub mod PinPlaces
-- rows that are short, and tables of stands
pub mod NearStands
pub mod StandTables
-- a design and rows that hold its instances
pub mod Placed
pub mod PlacedView
-- the columns of pins in their cells
pub mod PinColumns
pub mod ColumnTablesView
-- rows after a change
pub mod Changes
