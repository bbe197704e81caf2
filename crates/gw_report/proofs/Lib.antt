pub mod Applying
pub mod Doors
