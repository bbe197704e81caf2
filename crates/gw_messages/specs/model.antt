pub mod Bodies
pub mod Sections
pub mod Values
