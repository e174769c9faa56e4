-- cells in the order of instances
pub mod InOrder
