-- Laws of the stages that a piece goes to.
pub mod Stages
