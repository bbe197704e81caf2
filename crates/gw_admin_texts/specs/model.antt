pub mod Listings
pub mod Questions
pub mod Replies
pub mod Resources
pub mod Submissions
