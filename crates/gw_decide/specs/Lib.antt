pub mod Entries
pub mod ExplainText
pub mod Seen
pub mod model
