pub mod DownSince
pub mod ErrorsTold
pub mod Leaving
pub mod StopsWait
