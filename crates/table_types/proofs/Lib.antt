pub mod KeptTypesRise
pub mod BatchIsFaultless
pub mod OneTableByShape
pub mod KindRoundTrip
pub mod EqualKeysAreOne
pub mod ByteOrder
