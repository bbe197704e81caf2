pub mod Cutting
pub mod Digests
pub mod InOrder
pub mod Namespaces
pub mod Parts
pub mod Places
pub mod SlicesOf
pub mod Undoing
