-- Which records are looked for.
pub mod Search
pub mod Laws
