pub mod Addresses
pub mod Choice
pub mod Order
pub mod Probes
