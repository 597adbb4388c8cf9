-- The cipher that is taken from a gathered Init message.
pub mod Choosing
