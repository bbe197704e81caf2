pub mod Choice
pub mod Listed
pub mod ListedOf
pub mod Telling
