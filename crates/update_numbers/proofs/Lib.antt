pub mod NumberLaws
pub mod RisingLaws
