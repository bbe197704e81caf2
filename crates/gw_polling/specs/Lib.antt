pub mod Polls
pub mod PollMemory
pub mod Rings
pub mod RingMemory
