pub mod Fields
pub mod Lines
pub mod Members
pub mod Paths
pub mod PathTexts
pub mod Refusals
pub mod Presence
pub mod Words
