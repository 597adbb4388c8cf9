-- Laws of a list that closes up.
pub mod ClosingUp
