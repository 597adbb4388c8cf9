-- Lemmas and theorems.
pub mod Answers
pub mod LayoutLaws
pub mod Reading
pub mod Refusals
