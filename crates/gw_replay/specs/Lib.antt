pub mod Lines
pub mod Outputs
pub mod Pairs
pub mod Replays
pub mod Schedules
pub mod States
