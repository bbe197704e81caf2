pub mod Telling
pub mod Reading
pub mod Ending
pub mod Staying
