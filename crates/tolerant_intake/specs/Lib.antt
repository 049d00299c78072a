pub mod Counts
pub mod Loose
pub mod StandIns
pub mod Tolerance
pub mod Policy
pub mod Reading
pub mod Planning
pub mod Agreement
