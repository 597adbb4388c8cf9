-- Laws that the proof uses, and those of the exports above.
pub mod Judging
pub mod ReadBack
