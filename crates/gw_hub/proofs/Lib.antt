pub mod Following
pub mod Turns
