pub mod Histories
pub mod Courses
pub mod Causes
pub mod Alones
pub mod Members
pub mod Stays
pub mod Crowds
