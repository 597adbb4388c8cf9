-- Strike the TEPs that are not valid, take the last: the definition of the judgement, read as RFC 8547 reads.
use Rattle.std.specs.Prelude.{ℕ, ◌≡◌}
use Rattle.std.proofs.Math.Path.{refl, sym}
use Rattle.std.proofs.Common.{◌∙◌, ap}
use mathlib.Core.List.{List, [], ◌∷◌}
use Rattle.std.proofs.Math.Option.{Option, none, some}
use Rattle.eno.specs.Suboption.{Sent, name}
use Rattle.eno.specs.Judge.{Way, of_b, Sides, teps_of, validity, Negotiated, negotiated_by, or_else, last_valid, agreed, negotiate}
use Rattle.plain_striking.specs.Striking.{is_valid, struck, last_of, taken}

module _ (valid : ℕ → Option Way) where
  -- the last of those left is the last valid one
  abbrev Same : Option Sent → Option Negotiated → Type 0
  Same none q = q ≡ none
  Same (some x) q = (n : Negotiated) × (q ≡ some n) × (negotiated_by x (valid (name x)) ≡ some n)

  same_struck : (x : Sent) (o : Option Sent) (q : Option Negotiated) → valid (name x) ≡ none → Same o q → Same o (or_else q (negotiated_by x (valid (name x))))
  same_struck x none q e h = rw (h, e) refl
  same_struck x (some y) q e h = (h.0, rw h.1 refl, h.2)

  same_left : (x : Sent) (w : Way) (o : Option Sent) (q : Option Negotiated) → valid (name x) ≡ some w → Same o q
      → Same (or_else o (some x)) (or_else q (negotiated_by x (valid (name x))))
  same_left x w none q e h = (record { byte = x.byte; way = w }, rw (h, e) refl, rw e refl)
  same_left x w (some y) q e h = (h.0, rw h.1 refl, h.2)

  same_last : (l : List Sent) → Same (last_of (struck valid l)) (last_valid valid l)
  unfolding struck last_of last_valid
  same_last [] = refl
  same_last (x ∷ l) = go (valid (name x)) refl (same_last l)
    where
      go : (v : Option Way) → valid (name x) ≡ v → Same (last_of (struck valid l)) (last_valid valid l) → Same (last_of (struck valid (x ∷ l))) (last_valid valid (x ∷ l))
      go none e rest = rw (ap is_valid e) (same_struck x (last_of (struck valid l)) (last_valid valid l) e rest)
      go (some w) e rest = rw (ap is_valid e) (same_left x w (last_of (struck valid l)) (last_valid valid l) e rest)

  pub last_of_struck : (l : List Sent) → taken valid (last_of (struck valid l)) ≡ last_valid valid l
  unfolding taken
  last_of_struck l = go (last_of (struck valid l)) (last_valid valid l) (same_last l)
    where
      go : (o : Option Sent) (q : Option Negotiated) → Same o q → taken valid o ≡ q
      go none q h = sym h
      go (some x) q h = h.2 ∙ sym h.1

-- so what is negotiated is: of the TEPs in B's option strike the ones not valid, take the last
pub judge_by_striking : (role : ℕ) (s : Sides)
    → negotiate role s ≡ agreed role s (taken (validity s) (last_of (struck (validity s) (teps_of (of_b s.own_is_b s.own s.peer)))))
unfolding negotiate
judge_by_striking role s = ap (agreed role s) (sym (last_of_struck (validity s) (teps_of (of_b s.own_is_b s.own s.peer))))
