-- What the checker's first three tests tell of a file where none of them holds, and laws of tests over handshakes. Assumes nothing.
use Rattle.std.specs.Prelude.{ℕ, zero, suc, ◌+◌, ◌≤◌, ◌<◌, ◌≡◌, refl, List, [], ◌∷◌, Bool, true, false, ◌||◌, ltb, length}
use Rattle.std.proofs.Common.{sym, ◌∙◌, ap, ap₂, arith, ltb-false, eqb-true, lt-ltb, le-leb}
use Rattle.std.proofs.lemmas.Bool.{false≢true, not-false}
use Rattle.std.proofs.Math.Option.{none}
use Rattle.std.proofs.Math.Decide.{ℕ_discrete}
use Rattle.wire.specs.Bytes.{part}
use Rattle.wire.specs.ByteLaws.{length_part}
use Rattle.refusals.specs.Rows.{refusal}
use Rattle.capture_layout.specs.Layout.{most_file, most_handshakes, contents_size, count_in, place_in, length_in, end_in, is_body, body_in}
use Rattle.capture_layout.specs.Checking.{any_from, any_body, is_wrong_size, is_past_end, is_misplaced, has_rest, refused_first}
use Rattle.capture_layout.specs.CheckingLaws.{Laid}

pub or_false : (a b : Bool) → a || b ≡ false → (a ≡ false) × (b ≡ false)
or_false true b e = absurd (false≢true (sym e))
or_false false b e = (refl, e)

-- tests over handshakes: none holds, and equal tests
pub any_false : (t : ℕ → Bool) (n i : ℕ) → any_from t n i ≡ false → (j : ℕ) → i ≤ j → j < i + n → t j ≡ false
unfolding any_from
any_false t zero i e j h k = absurd (omega arith)
any_false t (suc n) i e j h k =
    let p = or_false (t i) (any_from t n (i + 1)) e in
    elim (ℕ_discrete i j) [
      | yes q ↦ ap t (sym q) ∙ p.0
      | no q ↦ any_false t n (i + 1) p.1 j (omega arith) (omega arith)
    ]

pub any_same : (t u : ℕ → Bool) (n i : ℕ) → ((j : ℕ) → i ≤ j → j < i + n → t j ≡ u j) → any_from t n i ≡ any_from u n i
unfolding any_from
any_same t u zero i h = refl
any_same t u (suc n) i h = ap₂ (λ a b. a || b) (h i (omega arith) (omega arith)) (any_same t u n (i + 1) (λ j k l. h j (omega arith) (omega arith)))

pub any_none : (t : ℕ → Bool) (n i : ℕ) → ((j : ℕ) → i ≤ j → j < i + n → t j ≡ false) → any_from t n i ≡ false
unfolding any_from
any_none t zero i h = refl
any_none t (suc n) i h = ap₂ (λ a b. a || b) (h i (omega arith) (omega arith)) (any_none t n (i + 1) (λ j k l. h j (omega arith) (omega arith)))

-- of the four bodies of a handshake
pub body_false : (t : ℕ → ℕ → Bool) (i : ℕ) → any_body t i ≡ false → (t i 0 ≡ false) × (t i 1 ≡ false) × (t i 2 ≡ false) × (t i 3 ≡ false)
unfolding any_body
body_false t i e =
    let p = or_false (t i 0) (t i 1 || (t i 2 || t i 3)) e in
    let q = or_false (t i 1) (t i 2 || t i 3) p.1 in
    let r = or_false (t i 2) (t i 3) q.1 in
    (p.0, q.0, r.0, r.1)

pub each_body : (t : ℕ → ℕ → Bool) (i : ℕ) → any_body t i ≡ false → (k : ℕ) → k < 4 → t i k ≡ false
each_body t i e k h =
    let p = body_false t i e in
    elim (ℕ_discrete k 0) [
      | yes q ↦ ap (t i) q ∙ p.0
      | no q ↦ elim (ℕ_discrete k 1) [
        | yes q₁ ↦ ap (t i) q₁ ∙ p.1
        | no q₁ ↦ elim (ℕ_discrete k 2) [
          | yes q₂ ↦ ap (t i) q₂ ∙ p.2
          | no q₂ ↦ let q₃ : k ≡ 3 = omega arith in ap (t i) q₃ ∙ p.3
        ]
      ]
    ]

-- three tests of which none holds
pub three_false : (a b c : Bool) (k m n : ℕ) → refusal ((a, k) ∷ (b, m) ∷ (c, n) ∷ []) ≡ none → (a ≡ false) × (b ≡ false) × (c ≡ false)
unfolding refusal
three_false true b c k m n e = let z : ◌≡◌ {A = ℕ} 0 1 = cc in absurd (omega arith)
three_false false true c k m n e = let z : ◌≡◌ {A = ℕ} 0 1 = cc in absurd (omega arith)
three_false false false true k m n e = let z : ◌≡◌ {A = ℕ} 0 1 = cc in absurd (omega arith)
three_false false false false k m n e = (refl, refl, refl)

pub laid : (f : List ℕ) → refused_first f ≡ none → Laid f
unfolding refused_first is_wrong_size is_past_end is_misplaced has_rest
laid f e =
    let t = three_false (is_wrong_size f) (any_from (any_body (is_past_end f)) (count_in f) 0) (any_from (any_body (is_misplaced f)) (count_in f) 0 || has_rest f) 18 19 20 e in
    let size = or_false (ltb most_file (length f)) (ltb most_handshakes (count_in f) || ltb (length f) (contents_size (count_in f))) t.0 in
    let size₂ = or_false (ltb most_handshakes (count_in f)) (ltb (length f) (contents_size (count_in f))) size.1 in
    let last = or_false (any_from (any_body (is_misplaced f)) (count_in f) 0) (has_rest f) t.2 in
    record {
      small = ltb-false _ _ size.0;
      few = ltb-false _ _ size₂.0;
      contents = ltb-false _ _ size₂.1;
      within = λ i k h l. ltb-false _ _ (each_body (is_past_end f) i (any_false (any_body (is_past_end f)) (count_in f) 0 t.1 i (omega arith) (omega arith)) k l);
      placed = λ i k h l. eqb-true _ _ (not-false _ (each_body (is_misplaced f) i (any_false (any_body (is_misplaced f)) (count_in f) 0 last.0 i (omega arith) (omega arith)) k l));
      no_rest = ltb-false _ _ last.1;
    }

-- a body that does not run past the end, and its length
pub body_is : (f : List ℕ) (i k : ℕ) → i < count_in f → k < 4 → end_in f i k ≤ length f → body_in f i k ≡ part (place_in f i k) (length_in f i k) f
unfolding body_in is_body
body_is f i k h l e = simp (lt-ltb _ _ h, lt-ltb _ _ l, le-leb _ _ e)

pub body_length : (f : List ℕ) (i k : ℕ) → i < count_in f → k < 4 → end_in f i k ≤ length f → length (body_in f i k) ≡ length_in f i k
unfolding end_in
body_length f i k h l e = ap length (body_is f i k h l e) ∙ length_part (place_in f i k) (length_in f i k) f e
