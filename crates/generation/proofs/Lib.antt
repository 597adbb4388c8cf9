-- Lemmas and theorems.
pub mod AfterFin
pub mod Answers
pub mod Connection
pub mod Local
pub mod LocalStep
pub mod Passing
pub mod Refusals
pub mod RunTable
