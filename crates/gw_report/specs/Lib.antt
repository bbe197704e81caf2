pub mod EventLines
pub mod Outputs
pub mod Reports
pub mod RunText
