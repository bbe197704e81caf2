pub mod Inlets
pub mod Judgments
pub mod Targets
pub mod model
