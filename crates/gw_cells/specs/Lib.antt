pub mod Cells
pub mod Changes
pub mod Held
pub mod model
