pub mod Drawing
pub mod Listening
pub mod Tabled
