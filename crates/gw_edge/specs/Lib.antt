pub mod Accepting
pub mod EdgeMemory
