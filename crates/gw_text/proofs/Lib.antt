pub mod Decimals
pub mod Keys
pub mod Sockets
pub mod Printing
pub mod Calendar
pub mod Moments
