pub mod OneTail
pub mod OneSpelling
pub mod ReadAsSpelled
pub mod ReadingLoop
pub mod SpellingLoop
