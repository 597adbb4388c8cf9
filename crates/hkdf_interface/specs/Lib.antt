-- HKDF for the crates above: the promise, what its answers mean, and the laws by which it is used.
pub mod Interface
pub mod Answers
pub mod InterfaceLaws
