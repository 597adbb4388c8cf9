-- The key schedule: definitions, calls, answers, refusals, theorems.
pub mod Cipher
pub mod Schedule
pub mod Outcome
pub mod Calls
pub mod Answers
pub mod Numbered
pub mod Refusals
pub mod Theorems
pub mod Examples
pub mod CipherLaws
