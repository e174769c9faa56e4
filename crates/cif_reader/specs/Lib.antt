-- what the reader's limits look at
pub mod Limits
-- the layout that commands give, or the first refusal
pub mod Expansion
-- what every layout keeps that commands give
pub mod Within
-- what a command gives the level in which it stands
pub mod Levels
-- rectangles that are small, proper or near
pub mod Sides
-- how a program answers that refuses commands
pub mod Refusals
-- the table of symbols, which keeps what each draws, and not its shapes
pub mod Table
-- symbols with their depths
pub mod Tabled
-- how a table keeps them
pub mod SymbolTables
-- the places of symbols in the table
pub mod Places
-- rectangles around others
pub mod Bounds
-- a symbol that draws more
pub mod Growing
-- what stands behind some commands, as the program keeps it
pub mod Standing
-- the progress that the program keeps
pub mod Behind
-- what a fault of commands tells
pub mod Expanding
-- sound commands
pub mod SoundCommands
-- what stands behind some commands, for whoever takes them in an order of their own
pub mod Expanders
pub mod ExpandersView
