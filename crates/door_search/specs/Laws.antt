-- The oldest record that is looked for, in the definitions' own words.
use Rattle.std.specs.Prelude.{ℕ, ◌≡◌, List}
use Rattle.std.proofs.Math.Path.{refl}
use Rattle.eno.specs.Option.{is_listed}
use Rattle.eno.specs.declared.SessionRecord.{SessionRecord}
use Rattle.door.specs.Record.{first_that, is_session}
use Rattle.door_search.specs.Search.{expects, is_sought}
use Rattle.door_search.specs.declared.Sought.TheVariants as sought

module _ (bytes : List ℕ) (held : List SessionRecord) where
  pub first_listed : first_that (is_sought sought.Listed bytes) held ≡ first_that (λ r. is_listed r.tep bytes) held
  unfolding is_sought
  first_listed = refl

  pub first_expecting : (t at : ℕ) → first_that (is_sought (sought.Expecting t at) bytes) held ≡ first_that (expects bytes t at) held
  unfolding is_sought
  first_expecting t at = refl

  pub first_named : (t : ℕ) → first_that (is_sought (sought.Named t) bytes) held ≡ first_that (is_session t bytes) held
  unfolding is_sought
  first_named t = refl
