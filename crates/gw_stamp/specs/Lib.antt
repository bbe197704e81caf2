pub mod Entries
pub mod Names
pub mod Since
pub mod Stamping
pub mod Stated
