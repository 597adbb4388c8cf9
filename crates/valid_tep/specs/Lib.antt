-- How the last valid TEP is found.
pub mod Best
