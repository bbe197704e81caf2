pub mod Left
pub mod Picks
