pub mod Doors
pub mod Drawing
pub mod Scripting
pub mod Writing
