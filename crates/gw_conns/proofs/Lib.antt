pub mod Lending
pub mod Polling
pub mod Standing
