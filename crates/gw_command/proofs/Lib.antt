pub mod Plain
pub mod Seeds
pub mod Starting
pub mod Tables
