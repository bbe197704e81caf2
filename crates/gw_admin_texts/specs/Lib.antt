pub mod Printing
pub mod model
