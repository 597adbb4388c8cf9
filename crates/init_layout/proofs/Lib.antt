-- Lemmas and theorems.
pub mod Accepted
pub mod Answers
pub mod ContinuingLaws
pub mod FieldLaws
pub mod LayoutLaws
pub mod ReadableLaws
pub mod Refusals
pub mod RoundTrip
pub mod StandingLaws
pub mod StandingOfLaws
pub mod VoidLaws
pub mod WorkedExamples
pub mod WritingLaws
