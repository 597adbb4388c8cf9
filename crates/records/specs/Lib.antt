-- What the calls on records tell, and laws of the definitions.
pub mod Answers
pub mod StoreLaws
pub mod ForgetLaws
