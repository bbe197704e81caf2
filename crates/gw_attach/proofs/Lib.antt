pub mod Selectors
pub mod Hostnames
