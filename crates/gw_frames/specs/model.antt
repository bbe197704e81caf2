pub mod Heads
pub mod Requests
