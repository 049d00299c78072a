pub mod LineLaws
pub mod HelloLaws
pub mod MoreBytes
