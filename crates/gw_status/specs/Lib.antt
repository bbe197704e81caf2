pub mod Sending
pub mod StatusText
