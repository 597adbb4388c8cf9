-- The halves of an identifier: which this end sends, and whether they stand in the two options. Assumes nothing.
use Prim.Native.Nat.{ℕ, ◌+◌, ◌-◌, ◌≤◌}
use mathlib.Core.Path.{◌≡◌, refl, sym, ◌∙◌, ap}
use mathlib.Core.List.{List}
use mathlib.Core.Bool.{Bool, true, false, cond}
use mathlib.Core.Option.{none, some}
use native.Mathlib.Omega.{arith}
use borrow.Author.Tests.{eq-eqb, ne_eqb}
use lib.Dec.{eqb}
use lib.ListN.{length, take, drop, length-take, length-drop}
use Rattle.wire.specs.Bytes.{part, same_bytes, stands_at}
use Rattle.eno.specs.Suboption.{Sent}
use Rattle.eno.specs.Session.{sent_half, expected_half, in_hand}
use Rattle.eno.specs.Judge.{half_of, matches}
use Rattle.eno.specs.declared.SessionRecord.{SessionRecord}
use Rattle.eno.specs.declared.InHand.{InHand}
use Rattle.eno.proofs.Halves.{hand_none, hand_some}
use Rattle.plain_validity.specs.Validity.{sent_from}

pub from_first : (role : ℕ) → role ≡ 0 → (0 ≡ sent_from role) × (0 ≤ 9)
unfolding sent_from
from_first role e = (simp (eq-eqb _ _ e), omega arith)

pub from_second : (role : ℕ) → (role ≡ 0 → ⊥) → (9 ≡ sent_from role) × (9 ≤ 9)
unfolding sent_from
from_second role h = (simp (ne_eqb _ _ h), omega arith)

-- the two halves, by where the sent one begins
sent_half_lem : (r : SessionRecord) → sent_half r ≡ part (sent_from r.role) 9 r.identifier
unfolding sent_half sent_from
sent_half_lem r = go (eqb r.role 0)
  where
    go : (b : Bool) → cond b (part 0 9 r.identifier) (part 9 9 r.identifier) ≡ part (cond b 0 9) 9 r.identifier
    go true = refl
    go false = refl

expected_half_lem : (r : SessionRecord) → expected_half r ≡ part (9 - sent_from r.role) 9 r.identifier
unfolding expected_half sent_from
expected_half_lem r = go (eqb r.role 0)
  where
    go : (b : Bool) → cond b (part 9 9 r.identifier) (part 0 9 r.identifier) ≡ part (9 - cond b 0 9) 9 r.identifier
    go true = refl
    go false = refl

-- the record in hand
module _ (own peer : List ℕ) (h : InHand) (t : ℕ) (x y : Sent) where
  pub match_none : h.held ≡ false → false ≡ matches (in_hand h) t (half_of own x) (half_of peer y)
  unfolding matches
  match_none e = rw (hand_none h e) refl

  module _ (held : h.held ≡ true) where
    pub match_other : (h.session.tep ≡ t → ⊥) → false ≡ matches (in_hand h) t (half_of own x) (half_of peer y)
    unfolding matches
    match_other n = rw (hand_some h held) (simp (ne_eqb _ _ n))

    module _ (same : h.session.tep ≡ t) (from : ℕ) (is : from ≡ sent_from h.session.role)
        (i : ℕ) (ei : i ≡ x.start) (b : Bool) (eb : b ≡ same_bytes (part i 9 own) (part from 9 h.session.identifier)) where
      mine : b ≡ same_bytes (half_of own x) (sent_half h.session)
      unfolding half_of
      mine = eb ∙ (ap (λ k. same_bytes (part k 9 own) (part from 9 h.session.identifier)) ei
          ∙ ap (λ m. same_bytes (part x.start 9 own) m) (ap (λ k. part k 9 h.session.identifier) is ∙ sym (sent_half_lem h.session)))

      pub match_not : b ≡ false → false ≡ matches (in_hand h) t (half_of own x) (half_of peer y)
      unfolding matches
      match_not e = rw (hand_some h held) (simp (eq-eqb _ _ same, ← mine, e))

      theirs : (j : ℕ) → j ≡ y.start → (c : Bool) → c ≡ same_bytes (part j 9 peer) (part (9 - from) 9 h.session.identifier) → c ≡ same_bytes (half_of peer y) (expected_half h.session)
      unfolding half_of
      theirs j ej c ec = ec ∙ (ap (λ k. same_bytes (part k 9 peer) (part (9 - from) 9 h.session.identifier)) ej
          ∙ ap (λ m. same_bytes (part y.start 9 peer) m) (ap (λ k. part (9 - k) 9 h.session.identifier) is ∙ sym (expected_half_lem h.session)))

      pub match_if : b ≡ true → (j : ℕ) → j ≡ y.start → (c : Bool) → c ≡ same_bytes (part j 9 peer) (part (9 - from) 9 h.session.identifier)
          → c ≡ matches (in_hand h) t (half_of own x) (half_of peer y)
      unfolding matches
      match_if e j ej c ec = rw (hand_some h held) (simp (eq-eqb _ _ same, ← mine, e, ← theirs j ej c ec))
