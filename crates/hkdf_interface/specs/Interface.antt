-- The promise of HKDF: two functions that are shut, how many bytes they give, and what the calls do, with their numbers, zeros and lent buffer. What a hash is cannot be reached through it.
pub use Rattle.hash_layout.specs.Hkdf.{hkdf_extract, hkdf_expand}
pub use Rattle.hash_layout.proofs.Lengths.{length_extract, length_expand, empty_salt}
pub use Rattle.hash_layout.specs.declared.TooLong.{TooLong}
pub use Rattle.hash_layout.specs.Outcome.{Reply, refused, made, written, Outcome}
unfoldable pub use Rattle.hash_layout.specs.Outcome.{unless}
pub use Rattle.hash_layout.specs.Calls.{Ask, extract, expand}
unfoldable pub use Rattle.hash_layout.specs.Calls.{longest, too_long, mac_too_long, most_expanded, expand_too_long, digest, expanded, outcome}
