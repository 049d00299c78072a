pub mod Calls
pub mod Doing
pub mod Reading
pub mod Acting
pub mod Turns
pub mod Writing
