mod Written
pub mod WritingLaws
