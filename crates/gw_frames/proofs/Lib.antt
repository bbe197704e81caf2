pub mod Framing
pub mod HeadBytes
pub mod Inlets
pub mod Judging
