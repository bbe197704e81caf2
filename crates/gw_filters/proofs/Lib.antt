pub mod Entries
pub mod Fitting
pub mod Names
pub mod Settings
pub mod Untouched
