pub mod Celled
pub mod DoorRows
pub mod Owning
pub mod Pairs
pub mod Serving
pub mod Specific
