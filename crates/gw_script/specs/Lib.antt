pub mod Parts
pub mod Readings
pub mod Refusals
pub mod Scripts
pub mod Seen
pub mod Steps
