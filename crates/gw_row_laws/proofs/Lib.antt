pub mod Deciding
pub mod Existing
pub mod Faults
pub mod Hostnames
pub mod Ready
pub mod Specificity
pub mod Tables
