-- Generations: the steps, the numbers of their refusals, and the laws of a connection.
pub mod Steps
pub mod Answers
pub mod Numbered
pub mod Refusals
pub mod LocalStep
pub mod Connection
pub mod Local
pub mod AfterFin
pub mod RunTable
