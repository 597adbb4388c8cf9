-- The first row that holds has the least number that applies, for any rows in their order. Assumes nothing.
use Rattle.std.specs.Prelude.{ℕ, ◌≤◌, ◌<◌, ◌≡◌, refl, List, [], ◌∷◌, Bool, true, false, cond, ◌&&◌, ◌||◌, ◌↔◌, eqb}
use Rattle.std.proofs.Common.{sym, ◌∙◌, ap, true≢false, arith, eq-eqb, ne_eqb}
use Rattle.std.proofs.lemmas.Bool.{false≢true}
use Rattle.std.proofs.Math.Option.{some}
use Rattle.std.proofs.Math.Decide.{dec_lt, ℕ_discrete}
use Rattle.refusals.specs.Rows.{refusal, marked, Rising, Least}

marked_above : (l : List (Bool × ℕ)) (n m : ℕ) → Rising n l → m ≤ n → marked m l ≡ false
unfolding marked
marked_above [] n m r h = refl
marked_above (t ∷ l) n m r h =
    let other : t.1 ≡ m → ⊥ = λ e. omega arith in
    rw (ne_eqb _ _ other) (go t.0 (marked_above l t.1 m r.1 (omega arith)))
  where
    go : (b : Bool) → marked m l ≡ false → b && false || marked m l ≡ false
    go true e = e
    go false e = e

module _ (l : List (Bool × ℕ)) (n : ℕ) where
  abbrev First : Type 0
  First = (marked n l ≡ true) × ((m : ℕ) → m < n → marked m l ≡ false)

first_is : (l : List (Bool × ℕ)) (k n : ℕ) → Rising k l → refusal l ≡ some n → First l n
unfolding refusal marked
first_is [] k n r e = let z : ◌≡◌ {A = ℕ} 0 1 = cc in absurd (omega arith)
first_is (t ∷ l) k n r e = go (λ q. first_is l t.1 n r.1 q) t.0 e
  where
    go : (refusal l ≡ some n → First l n) → (b : Bool) → cond b (some t.1) (refusal l) ≡ some n → (b && eqb t.1 n || marked n l ≡ true) × ((m : ℕ) → m < n → b && eqb t.1 m || marked m l ≡ false)
    go again true e =
        let q : t.1 ≡ n = cc in
        (rw (eq-eqb _ _ q), λ m h. let other : t.1 ≡ m → ⊥ = λ z. omega arith in rw (ne_eqb _ _ other) (marked_above l t.1 m r.1 (omega arith)))
    go again false e = again e

is_first : (l : List (Bool × ℕ)) (k n : ℕ) → Rising k l → First l n → refusal l ≡ some n
unfolding refusal marked
is_first [] k n r f = absurd (false≢true f.0)
is_first (t ∷ l) k n r f = go (λ q. is_first l t.1 n r.1 q) t.0 f
  where
    go : (First l n → refusal l ≡ some n) → (b : Bool) → (b && eqb t.1 n || marked n l ≡ true) × ((m : ℕ) → m < n → b && eqb t.1 m || marked m l ≡ false) → cond b (some t.1) (refusal l) ≡ some n
    go again true g = elim (ℕ_discrete t.1 n) [
      | yes e ↦ ap (λ x. some x) e
      | no e ↦ elim (dec_lt t.1 n) [
        | yes h ↦ let z : eqb t.1 t.1 || marked t.1 l ≡ false = g.1 t.1 h in absurd (true≢false (sym (rw (eq-eqb t.1 t.1 refl)) ∙ z))
        | no h ↦ let z : eqb t.1 n || marked n l ≡ true = g.0 in
            let y : marked n l ≡ false = marked_above l t.1 n r.1 (omega arith) in
            absurd (false≢true (sym (rw (ne_eqb _ _ e, y)) ∙ z))
      ]
    ]
    go again false g = again g

-- rows in their order: the first that holds is the least number that applies, and there is no other way to be the least
pub first_is_least : (l : List (Bool × ℕ)) (k : ℕ) → Rising k l → (n : ℕ) → (refusal l ≡ some n) ↔ Least (λ m. marked m l) n
first_is_least l k r n = (
  λ e. let f = first_is l k n r e in record { this = f.0; none_below = f.1 },
  λ f. is_first l k n r (f.this, f.none_below),
)
