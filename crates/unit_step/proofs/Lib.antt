-- Lemmas and theorems.
pub mod StepRows
pub mod Untouched
