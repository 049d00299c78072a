pub mod NamesHeld
pub mod NamedUpdates
pub mod Links
pub mod Verdicts
pub mod Readings
pub mod LastPlaces
pub mod Sums
