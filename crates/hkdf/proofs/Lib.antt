-- HKDF: what is extracted, the blocks of an expansion, and the answers.
pub mod Blocks
pub mod Told
