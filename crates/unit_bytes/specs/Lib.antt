-- The unit's content in arrays of bytes: what they say, what is written, and that nothing is lost.
pub mod Layout
pub mod Content
pub mod Laws
pub mod Whole
pub mod Tells
