pub mod Cores
pub mod Outcomes
