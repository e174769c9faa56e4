-- cells in the order of instances
pub mod OrderedCells
-- shapes within the limits of the reader
pub mod NearShapes
