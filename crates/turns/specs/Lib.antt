-- How the code says what is done with a segment.
pub mod Turns
pub mod Telling
