-- Frames in pieces: what the steps on a header's bytes and on a body give, and the laws of them.
pub mod Frames
pub mod HeaderLaws
pub mod BodyLaws
pub mod StageLaws
pub mod HeaderWays
