mod Counts
pub mod Deciding
pub mod Going
pub mod Parts
pub mod Staying
mod Serving
mod Stepping
mod Exchanging
pub mod Turning
pub mod Linking
