-- The record that an offer takes: which, and that its TEP is listed.
use Prim.Native.Nat.{ℕ, ◌≤◌}
use mathlib.Core.Path.{◌≡◌, refl}
use mathlib.Core.List.{List}
use mathlib.Core.Bool.{Bool, true, false}
use native.Mathlib.Omega.{arith}
use borrow.Author.Tests.{ltb-true, ltb-false, le-leb}
use lib.Dec.{ltb}
use lib.ListN.{length}
use Rattle.eno.specs.Option.{is_listed, is_tep_list, record_listed, offer_fits}
use Rattle.eno.specs.declared.SessionRecord.{SessionRecord}
use Rattle.door.specs.Record.{first_that, record_at}
use Rattle.door.specs.Offer.{offered_at}
use Rattle.door.proofs.Laws.Choice.{first_passes}
use Rattle.opening.specs.Laws.Taken.{taken_there, taken_none}

-- which record is taken
module _ (resume : Bool) (list : List ℕ) (held : List SessionRecord) where
  pub offered_first : resume ≡ true → first_that (λ r. is_listed r.tep list) held ≡ offered_at resume list held
  unfolding offered_at
  offered_first e = rw e

  pub offered_none : resume ≡ false → length held ≡ offered_at resume list held
  unfolding offered_at
  offered_none e = rw e

-- an offer takes a record of a listed TEP
module _ (list : List ℕ) (held : List SessionRecord) where
  offered_listed : (resume : Bool) → record_listed (record_at held (offered_at resume list held)) list ≡ true
  unfolding offered_at record_listed
  offered_listed false = rw (taken_none held (length held) (omega arith))
  offered_listed true = go (ltb first (length held)) refl
    where
      first : ℕ
      first = first_that (λ r. is_listed r.tep list) held

      go : (b : Bool) → ltb first (length held) ≡ b → record_listed (record_at held (first_that (λ r. is_listed r.tep list) held)) list ≡ true
      go true e = let h = ltb-true _ _ e in rw (taken_there held first h) (first_passes (λ r. is_listed r.tep list) held h)
      go false e = rw (taken_none held first (ltb-false _ _ e))

pub offer_fits_lem : (b : ℕ) (list nonce : List ℕ) (held : List SessionRecord) (resume : Bool) (j : ℕ) → b ≤ 1 → is_tep_list list ≡ true → length nonce ≤ 8
    → j ≡ offered_at resume list held → offer_fits b list (record_at held j) nonce ≡ true
unfolding offer_fits
offer_fits_lem b list nonce held resume j one teps eight e = rw e (simp (le-leb _ _ one, teps, le-leb _ _ eight, offered_listed list held resume))
