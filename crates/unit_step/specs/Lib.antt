-- The unit's calls in code: how their results are read as steps, the laws that their proofs share, and what a call leaves untouched in the arrays.
pub mod Steps
pub mod Stepping
pub mod InPlace
pub mod StepRows
pub mod Untouched
