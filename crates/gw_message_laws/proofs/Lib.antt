pub mod BodyLaws
pub mod Cuts
pub mod Ends
pub mod Limits
pub mod RequestLaws
pub mod ResponseLaws
pub mod TargetLaws
