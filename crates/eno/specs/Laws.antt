-- Laws of the definitions, for the proofs.
pub mod Walk
pub mod Area
pub mod Found
pub mod Suboption
pub mod Teps
pub mod Asked
pub mod Tests
