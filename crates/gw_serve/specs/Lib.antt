pub mod Polled
pub mod Serving
