pub mod Nearest
pub mod Standing
pub mod model
