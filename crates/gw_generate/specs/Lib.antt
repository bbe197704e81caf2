pub mod Doors
pub mod Draws
pub mod Lines
pub mod Scripts
