-- Lemmas and theorems.
pub mod Answers
pub mod Arrivals
pub mod AsOneShot
pub mod ByteLaws
pub mod CutLaws
pub mod Each
pub mod FrameStreamLaws
pub mod HopelessLaws
pub mod InitStreamLaws
pub mod OpeningLaws
pub mod PieceLaws
pub mod ReaderLaws
pub mod StandingSnocLaws
pub mod StartLaws
pub mod StreamLaws
pub mod VoidSnocLaws
