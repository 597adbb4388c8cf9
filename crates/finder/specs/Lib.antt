-- What the finder's answers mean.
pub mod Answers
