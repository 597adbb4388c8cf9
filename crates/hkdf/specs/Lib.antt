-- An expansion in steps.
pub mod Expanding
