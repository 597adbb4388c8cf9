-- What a judge's answers mean.
pub mod Answers
pub mod Laws
