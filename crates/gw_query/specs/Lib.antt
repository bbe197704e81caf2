pub mod Cut
pub mod Parts
pub mod Sorted
pub mod model
