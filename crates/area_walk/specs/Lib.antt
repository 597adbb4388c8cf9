-- What the walk of an area answers.
pub mod Answers
