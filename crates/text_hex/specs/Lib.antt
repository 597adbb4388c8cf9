-- Hex words: the bytes that a word says, and the text of bytes.
pub mod Hex
pub mod Answers
pub mod HexLaws
pub mod HexTrips
