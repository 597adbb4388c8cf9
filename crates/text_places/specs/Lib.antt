-- Where a byte stands in a text, and the word at a place.
pub mod Word
pub mod WordLaws
