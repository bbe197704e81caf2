pub mod Editing
pub mod Locations
