pub mod Rows
pub mod Fitting
pub mod Precedence
pub mod DoorRows
