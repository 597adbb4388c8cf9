-- Lines that are read out of chunks of bytes.
pub mod Line
pub mod Answers
pub mod LineLaws
pub mod Chunks
