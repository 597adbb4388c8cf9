-- Lemmas and theorems.
pub mod AnswerReason
pub mod Causes
pub mod Refusals
pub mod RunTable
pub mod SameTests
pub mod Taking
pub mod Telling
pub mod Verdict
pub mod Laws
