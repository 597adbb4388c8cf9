-- Frames: their layout, what each call gives, the numbers of its refusals, and the laws.
pub mod Layout
pub mod Outcome
pub mod Calls
pub mod Answers
pub mod Numbered
pub mod Refusals
pub mod Reading
