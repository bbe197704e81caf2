pub mod Hops
pub mod Responses
pub mod Written
