pub mod Alike
pub mod Beginning
pub mod Holding
pub mod Numbers
pub mod Ordering
pub mod Turning
pub mod With
pub mod Worlds
