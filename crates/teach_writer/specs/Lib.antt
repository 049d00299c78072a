pub mod Lessons
pub mod Naming
pub mod Pieces
pub mod Planning
pub mod Retained
pub mod NextRequests
pub mod Sending
