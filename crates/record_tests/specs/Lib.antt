-- A session's name, and laws of the tests on records.
pub mod Steps
pub mod NameLaws
