pub mod Faults
pub mod Pieces
pub mod Exchanges
pub mod Moments
pub mod Memory
pub mod Upstreams
pub mod UpstreamLaws
