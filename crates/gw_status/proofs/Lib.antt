pub mod Floats
pub mod Parts
mod Pieces
