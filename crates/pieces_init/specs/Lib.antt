-- Init messages in pieces: what the steps on gathered bytes give, and the laws of them.
pub mod Gathering
pub mod GatherLaws
pub mod RunLaws
pub mod InitWays
