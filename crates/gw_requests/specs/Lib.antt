pub mod Numbers
pub mod Quoted
pub mod Requests
