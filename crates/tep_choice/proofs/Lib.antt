-- Laws for the proofs of the choice.
pub mod Lasting
pub mod First
