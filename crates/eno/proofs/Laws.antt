-- Laws, by what they speak of.
pub mod Area
pub mod Asked
pub mod Encoding
pub mod Found
pub mod Held
pub mod Suboption
pub mod Tep
pub mod Teps
pub mod Tests
pub mod Walk
