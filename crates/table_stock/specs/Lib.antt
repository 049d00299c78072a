pub mod Blocks
pub mod NumberedRows
pub mod Stock
pub mod Slots
pub mod Shelves
