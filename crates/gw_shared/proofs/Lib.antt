mod Elements
mod Finding
mod Groups
pub mod Pieces
mod Places
mod Placing
