pub mod Buckets
pub mod Elements
pub mod Entries
pub mod Hashes
