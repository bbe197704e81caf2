pub mod Cuts
pub mod Sorting
