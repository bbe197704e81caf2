pub mod model
pub mod DoorFaults
pub mod Parsing
pub mod Civil
