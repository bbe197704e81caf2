pub mod Ending
pub mod Limits
pub mod Receiving
