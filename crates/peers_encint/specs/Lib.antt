pub mod Integers
pub mod IntegerLaws
