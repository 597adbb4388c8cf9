-- How the entries of the TEPs from t on change with one more suboption. Assumes nothing.
use Prim.Native.Nat.{ℕ, zero, suc, ◌+◌, ◌≤◌, ◌<◌}
use mathlib.Core.Path.{◌≡◌, refl, sym, ◌∙◌, ap, ap₂}
use mathlib.Core.List.{List, [], ◌∷◌}
use mathlib.Core.Bool.{Bool, true, false, cond}
use native.Mathlib.Omega.{arith}
use native.Mathlib.Decide.{ℕ_discrete}
use borrow.Author.Tests.{eq-eqb, ne_eqb}
use lib.Dec.{eqb}
use lib.ListN.{length, get_or, set, length-set}
use lib.Seq.{get_or-set_same, get_or-set_other}
use Rattle.eno.specs.Suboption.{Sent, name}
use Rattle.eno.specs.Judge.{named}
use Rattle.suboptions.specs.Summary.{never, again, entry_from, entries_from}
use Rattle.suboptions.specs.declared.Entry.{Entry}

pub entries_nil : (t : ℕ) (es : List Entry) → entries_from t es [] ≡ es
unfolding entries_from entry_from named
entries_nil t [] = refl
entries_nil t (e ∷ es) = ap (λ r. e ∷ r) (entries_nil (t + 1) es)

named_other : (t : ℕ) (x : Sent) (l : List Sent) → (name x ≡ t → ⊥) → named t (x ∷ l) ≡ named t l
unfolding named
named_other t x l h = simp (ne_eqb _ _ h)

named_this : (t : ℕ) (x : Sent) (l : List Sent) → name x ≡ t → named t (x ∷ l) ≡ x ∷ named t l
unfolding named
named_this t x l h = simp (eq-eqb _ _ h)

module _ (x : Sent) (l : List Sent) where
  -- a TEP that is none of these
  pub entries_other : (t : ℕ) (es : List Entry) → ((k : ℕ) → k < length es → name x ≡ t + k → ⊥) → entries_from t es (x ∷ l) ≡ entries_from t es l
  unfolding entries_from
  entries_other t [] h = refl
  entries_other t (e ∷ es) h =
      let here : name x ≡ t → ⊥ = λ q. h 0 (omega arith) (omega arith) in
      let later : (k : ℕ) → k < length es → name x ≡ t + 1 + k → ⊥ = λ k p q. h (suc k) (omega arith) (omega arith) in
      ap₂ (λ a r. entry_from e a ∷ r) (named_other t x l here) (entries_other (t + 1) es later)

  -- the TEP at k of these
  pub entries_known : (t : ℕ) (es : List Entry) (k : ℕ) → k < length es → name x ≡ t + k
      → entries_from t es (x ∷ l) ≡ entries_from t (set es k (again (get_or es k never) x)) l
  unfolding entries_from entry_from
  entries_known t [] k h q = absurd (omega arith)
  entries_known t (e ∷ es) zero h q =
      let later : (k : ℕ) → k < length es → name x ≡ t + 1 + k → ⊥ = λ k p r. omega arith in
      ap₂ (λ a r. entry_from e a ∷ r) (named_this t x l (omega arith)) (entries_other (t + 1) es later)
  entries_known t (e ∷ es) (suc k) h q =
      let here : name x ≡ t → ⊥ = λ r. omega arith in
      ap₂ (λ a r. entry_from e a ∷ r) (named_other t x l here) (entries_known (t + 1) es k (omega arith) (omega arith))

-- one entry changed, all stay bounded
pub bounded_set : (es : List Entry) (k : ℕ) (e : Entry) (i j : ℕ) → k < length es → ((m : ℕ) → (get_or es m never).times ≤ i) → i ≤ j → e.times ≤ j
    → (m : ℕ) → (get_or (set es k e) m never).times ≤ j
bounded_set es k e i j h b w b' m = elim (ℕ_discrete m k) [
  | yes q ↦ rw (q, get_or-set_same es k e never h) b'
  | no q ↦ let old = b m in rw (get_or-set_other es k m e never q) (omega arith)
]
