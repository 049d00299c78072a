pub mod Failures
pub mod Writing
