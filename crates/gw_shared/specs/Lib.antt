pub mod Sharing
pub mod model
