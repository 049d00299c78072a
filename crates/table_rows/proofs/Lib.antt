pub mod EndingLaws
pub mod FirstLaws
pub mod ListLaws
pub mod RowLaws
