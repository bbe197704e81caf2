pub mod Combined
pub mod Kept
pub mod model
