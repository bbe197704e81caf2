pub mod Answering
pub mod Conns
pub mod Faults
pub mod Serving
pub mod model
