pub mod Finding
pub mod Holding
pub mod Orders
pub mod Placing
pub mod Stating
pub mod Ties
pub mod Walking
