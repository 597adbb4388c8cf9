-- Messages in pieces: what a reader is, what it makes of a byte, of a piece and of a stream, and the laws of it.
pub mod Reader
pub mod Step
pub mod Starts
pub mod Answers
pub mod Run
pub mod Stream
pub mod ReaderLaws
pub mod ByteLaws
pub mod Each
pub mod PieceLaws
pub mod StartLaws
pub mod HopelessLaws
pub mod FrameStreamLaws
pub mod InitStreamLaws
pub mod AsOneShot
pub mod StreamLaws
pub mod Arrivals
