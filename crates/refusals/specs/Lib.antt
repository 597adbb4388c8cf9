-- Refusals by number: the first row that holds is the least number that applies.
pub mod Rows
pub mod RowLaws
