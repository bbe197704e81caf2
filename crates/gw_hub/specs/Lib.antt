pub mod Control
pub mod Turns
