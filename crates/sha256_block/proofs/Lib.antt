-- The message schedule and the rounds.
pub mod Schedule
