-- How the plain judge comes to its judgement.
pub mod Plain
