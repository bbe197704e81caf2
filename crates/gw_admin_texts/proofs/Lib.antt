pub mod Explaining
pub mod Floats
pub mod Lines
pub mod Tables
pub mod Writing
