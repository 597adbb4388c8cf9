-- The digits of a number, written from the last on.
pub mod FromTheEnd
