pub mod Answering
pub mod Causes
pub mod Linking
pub mod Parts
pub mod Turning
