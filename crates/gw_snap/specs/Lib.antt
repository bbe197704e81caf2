pub mod Counts
pub mod Lists
pub mod Publishing
pub mod Readers
