-- What receive answers, as the outcome of a door's call.
pub mod Answers
