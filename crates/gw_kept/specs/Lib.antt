pub mod Changes
pub mod Counts
pub mod Held
pub mod Numbers
pub mod Places
