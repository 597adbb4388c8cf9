-- What the stages of a reader of pieces share: numbers that are set, refusals, and pieces one behind the other.
pub mod Numbers
pub mod NumberLaws
pub mod Later
pub mod LaterLaws
pub mod Kinds
