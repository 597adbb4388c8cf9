-- Laws that the proof uses.
pub mod Questions
