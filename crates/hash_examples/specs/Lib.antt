-- Worked examples of the standards, by computing.
pub mod Examples
