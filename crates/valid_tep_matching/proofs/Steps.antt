-- The cases of the record in hand, each from facts about numbers. Assumes nothing.
use Prim.Native.Nat.{ℕ, ◌+◌, ◌-◌, ◌≤◌}
use mathlib.Core.Path.{◌≡◌, refl, sym}
use mathlib.Core.List.{List}
use mathlib.Core.Bool.{Bool, true, false, beq, cond, false≢true}
use native.Mathlib.Omega.{arith}
use borrow.Author.Tests.{eq-eqb, ne_eqb}
use lib.Dec.{eqb}
use Rattle.wire.specs.Bytes.{part, same_bytes}
use Rattle.eno.specs.Session.{in_hand}
use Rattle.eno.specs.declared.InHand.{InHand}
use Rattle.eno.proofs.Halves.{hand_none, hand_some}
use Rattle.valid_tep.specs.Best.{starts_b, matches_at}

-- where B's half begins: in front where b is as it was when the record was made
pub starts_first : (b : Bool) (role : ℕ) → beq b (eqb role 0) ≡ true → (0 ≡ starts_b b role) × (0 ≤ 9)
unfolding starts_b
starts_first b role e = (go b (eqb role 0) e, omega arith)
  where
    go : (b x : Bool) → beq b x ≡ true → ◌≡◌ {A = ℕ} 0 (cond b (cond x 0 9) (cond x 9 0))
    go true true e = refl
    go true false e = absurd (false≢true e)
    go false true e = absurd (false≢true e)
    go false false e = refl

pub starts_second : (b : Bool) (role : ℕ) → beq b (eqb role 0) ≡ false → (9 ≡ starts_b b role) × (9 ≤ 9)
unfolding starts_b
starts_second b role e = (go b (eqb role 0) e, omega arith)
  where
    go : (b x : Bool) → beq b x ≡ false → ◌≡◌ {A = ℕ} 9 (cond b (cond x 0 9) (cond x 9 0))
    go true true e = absurd (false≢true (sym e))
    go true false e = refl
    go false true e = refl
    go false false e = absurd (false≢true (sym e))

module _ (a b : List ℕ) (h : InHand) (own_is_b : Bool) (t in_a in_b : ℕ) where
  pub match_none : h.held ≡ false → false ≡ matches_at a b (in_hand h) own_is_b t in_a in_b
  unfolding matches_at
  match_none e = rw (hand_none h e)

  module _ (held : h.held ≡ true) where
    pub match_other : (h.session.tep ≡ t → ⊥) → false ≡ matches_at a b (in_hand h) own_is_b t in_a in_b
    unfolding matches_at
    match_other n = rw (hand_some h held) (simp (ne_eqb _ _ n))

    module _ (same : h.session.tep ≡ t) (from : ℕ) (is : from ≡ starts_b own_is_b h.session.role)
        (x : Bool) (ex : x ≡ same_bytes (part in_a 9 a) (part (9 - from) 9 h.session.identifier)) where
      pub match_not : x ≡ false → false ≡ matches_at a b (in_hand h) own_is_b t in_a in_b
      unfolding matches_at
      match_not e = rw (hand_some h held) (simp (eq-eqb _ _ same, ← is, ← ex, e))

      pub match_if : x ≡ true → (y : Bool) → y ≡ same_bytes (part in_b 9 b) (part from 9 h.session.identifier) → y ≡ matches_at a b (in_hand h) own_is_b t in_a in_b
      unfolding matches_at
      match_if e y ey = rw (hand_some h held) (simp (eq-eqb _ _ same, ← is, ← ex, e, ← ey))
