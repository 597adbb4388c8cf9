-- Laws of the record that is taken in hand.
use Prim.Native.Nat.{ℕ, ◌≤◌, ◌<◌}
use mathlib.Core.Path.{◌≡◌, sym, ◌∙◌}
use mathlib.Core.Bool.{true}
use native.Mathlib.Omega.{arith}
use borrow.Author.Tests.{lt-ltb, le-ltb}
use lib.ListN.{length, get_or}
use Rattle.eno.specs.declared.SessionRecord.{SessionRecord}
use Rattle.eno.specs.declared.InHand.{InHand}
use Rattle.door.specs.Door.{seen_of, hand_of, empty_hand, Counts}
use Rattle.door.specs.Record.{record_at, past_end}
use Rattle.door.proofs.Laws.First.{seen_at}
use Rattle.door.specs.declared.View.{View}

module _ (v : View) (n : ℕ) (counted : Counts v n) where
  pub hand_there : (j : ℕ) → j < n → (h : InHand) → h.held ≡ true → h.session ≡ get_or v.held j past_end → h ≡ hand_of (record_at (seen_of v).held j)
  unfolding hand_of record_at
  hand_there j l h p q =
      let s = counted.seen in
      let k : j < length (seen_of v).held = omega arith in
      let e : h.session ≡ get_or (seen_of v).held j past_end = q ∙ sym (seen_at v j k) in
      simp (lt-ltb _ _ k) (λ i. record { held = p i; session = e i })

  pub hand_none : (j : ℕ) → n ≤ j → empty_hand ≡ hand_of (record_at (seen_of v).held j)
  unfolding hand_of record_at
  hand_none j l =
      let s = counted.seen in
      let k : length (seen_of v).held ≤ j = omega arith in
      simp (le-ltb _ _ k)
