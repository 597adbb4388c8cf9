-- Whether a TEP is valid, by what each side sent.
pub mod Validity
