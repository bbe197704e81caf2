pub mod Labels
pub mod Selectors
