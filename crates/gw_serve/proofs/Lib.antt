pub mod Leaving
pub mod Passing
pub mod Polling
