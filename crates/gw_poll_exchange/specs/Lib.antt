pub mod Polled
pub mod Stays
