-- What Init messages are, what writers and readers do, and the laws of them.
pub mod Layout
pub mod Reading
pub mod Writing
pub mod Answers
pub mod WritingLaws
pub mod StandingLaws
pub mod VoidLaws
pub mod StandingOfLaws
pub mod ReadableLaws
pub mod Numbered
pub mod Accepted
pub mod WorkedExamples
