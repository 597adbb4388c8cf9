-- Capture files: their layout, the settings in them, the checker and the writer, and the theorems about refusals and settings.
pub mod Layout
pub mod Setting
pub mod Checking
pub mod Writing
pub mod CheckingLaws
pub mod Numbered
pub mod SettingLaws
pub mod Answers
