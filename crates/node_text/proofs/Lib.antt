mod ChangesRead
mod LessonLines
mod LineNumbers
mod Numerals
mod ReadAgain
mod TypeNames
pub mod WorldTables
