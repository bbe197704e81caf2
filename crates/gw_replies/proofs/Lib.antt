pub mod Finding
pub mod HeadBytes
pub mod Hops
pub mod Lengths
pub mod Messages
pub mod Replies
