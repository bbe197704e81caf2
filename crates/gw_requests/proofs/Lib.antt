pub mod Characters
pub mod Numbers
pub mod Requests
