-- The record in hand, and the halves of its identifier as parts of a buffer. Assumes nothing.
use Prim.Native.Nat.{ℕ, ◌+◌, ◌-◌, ◌≤◌}
use mathlib.Core.Path.{◌≡◌, ◌∙◌, ap}
use mathlib.Core.List.{List}
use mathlib.Core.Bool.{Bool, true, false}
use mathlib.Core.Option.{none, some}
use native.Mathlib.Omega.{arith}
use lib.ListN.{length, take, drop, length-take, length-drop}
use Rattle.wire.specs.Bytes.{part, same_bytes, stands_at}
use Rattle.eno.specs.Session.{in_hand}
use Rattle.eno.specs.declared.InHand.{InHand}

-- the record in hand
module _ (h : InHand) where
  pub hand_none : h.held ≡ false → in_hand h ≡ none
  unfolding in_hand
  hand_none e = simp e

  pub hand_some : h.held ≡ true → in_hand h ≡ some h.session
  unfolding in_hand
  hand_some e = simp e

-- a half of an identifier
pub half_at : (o : List ℕ) (at : ℕ) (identifier : List ℕ) (from e : ℕ) (m : List ℕ) → from ≤ 9 → length identifier ≡ 18 → e ≡ from + 9
    → m ≡ take (e - from) (drop from identifier) → stands_at o at m ≡ same_bytes (part at 9 o) (part from 9 identifier)
unfolding stands_at part
half_at o at identifier from e m h w q p =
    let n : e - from ≡ 9 = omega arith in
    let p' : m ≡ take 9 (drop from identifier) = p ∙ ap (λ k. take k (drop from identifier)) n in
    let l : length m ≡ 9 = ap length p' ∙ simp (length-take, length-drop) (omega arith) in
    ap (λ k. same_bytes (take k (drop at o)) m) l ∙ ap (same_bytes (take 9 (drop at o))) p'
