pub mod Floats
pub mod Places
pub mod RowByRow
pub mod Serving
