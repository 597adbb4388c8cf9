-- How long the keys of TEPs are.
pub mod KeyLengths
