-- Laws of one word of marks.
pub mod Trailing
