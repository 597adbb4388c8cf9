-- What a resumed connection is keyed by: the definitions, the answers, the refusals.
pub mod Terms
pub mod Calls
pub mod Answers
pub mod Refusals
pub mod Examples
pub mod Laws
