pub mod Generating
pub mod Running
pub mod Serving
