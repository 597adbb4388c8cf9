-- Lemmas and theorems.
pub mod Answers
pub mod CheckingLaws
pub mod Refusals
pub mod SettingLaws
pub mod WorkedExamples
pub mod WritingRefusals
