-- Decimal words: the number that a word says, and the digits of a number.
pub mod Decimal
pub mod Answers
pub mod DecimalLaws
pub mod DecimalTrips
