pub mod Claims
pub mod Fairness
pub mod Equal
pub mod Entries
