-- Lemmas and theorems.
pub mod AreaGrammar
pub mod BenchTable
pub mod Blame
pub mod Causes
pub mod ReadBack
pub mod SuboptionGrammar
pub mod WrittenValues
pub mod Laws
pub mod Halves
