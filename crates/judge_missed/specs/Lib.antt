-- The judgement of two areas that do not both have an option.
pub mod Missed
pub mod Laws
