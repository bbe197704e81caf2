pub mod Edges
pub mod Indexes
pub mod Orders
pub mod Sets
pub mod Touching
