-- Laws of the exports above.
pub mod Giving
