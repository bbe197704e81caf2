pub mod LineLemmas
pub mod ValueLemmas
pub mod Floats
pub mod Names
