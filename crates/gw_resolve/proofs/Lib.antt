pub mod Committing
pub mod Keeping
pub mod Nothing
pub mod Telling
pub mod Untouched
