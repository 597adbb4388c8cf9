-- The quick way to the judgement of two options, and that it is the judgement.
pub mod Quick
pub mod Laws
