pub mod Extents
pub mod Kinds
pub mod Options
pub mod Parts
pub mod Replies
pub mod model
