-- The writer of captures refuses with n exactly when n is the least number that applies, 18 to 20 first, and then writes nothing. Assumes nothing.
use Prim.Native.Nat.{ℕ, zero, suc, ◌+◌, ◌*◌, ◌/◌, ◌%◌, ◌≤◌}
use Rattle.std.specs.Prelude.{◌≡◌, List, [], ◌∷◌, Bool, true, false, not, ◌||◌, ◌↔◌, eqb}
use Rattle.std.proofs.Math.Path.{refl, ap, ap₂}
use Rattle.std.proofs.Common.{sym, ◌∙◌}
use Rattle.std.proofs.Math.Option.{Option, none, some}
use native.Mathlib.Omega.{arith}
use borrow.Author.Tests.{lt-ltb, le-ltb, ltb-true, ltb-false}
use Rattle.std.proofs.Math.Dec.{ltb}
use Rattle.std.proofs.Math.ListN.{length}
use Rattle.wire.specs.Bytes.{part}
use Rattle.wire.specs.ByteLaws.{length_part}
use Rattle.refusals.specs.Rows.{refusal, Rising}
use Rattle.unit.specs.Numbers.{doors_n}
use Rattle.eno.specs.Option as o
use Rattle.capture_layout.specs.Layout.{contents_size, file_of}
use Rattle.capture_layout.specs.Checking.{any_from, or_else}
use Rattle.capture_layout.proofs.CheckingLaws.{three_false}
use Rattle.capture_layout.specs.Writing.{count_of, door_at, length_at, bodies_at, bodies_size, all_size, file_size, staged_at, staged_from, staged, is_wrong_count, is_no_door_at, is_long_area_at, is_unfit_in, unfit_from, writing_first, writing_then, written_unless, write_capture}
use Rattle.capture_layout.specs.Numbered.{any_of, number1, number2, number21, LeastOf, lengths_of, sum, runs_past, writing_rows, staged_rows}
use Rattle.capture_layout.proofs.Refusals.{least_of_two, setting_row, not_less}

-- sums of lengths
sum_is : (e : List ℕ) (n i : ℕ) → bodies_size e n i ≡ sum (lengths_of e n i)
unfolding bodies_size bodies_at lengths_of sum
sum_is e zero i = refl
sum_is e (suc n) i = let again = sum_is e n (i + 1) in omega arith

-- one body runs past the end exactly where all together do
past_is : (size at : ℕ) (l : List ℕ) → at ≤ size → ltb size (at + sum l) ≡ runs_past size at l
unfolding runs_past sum
past_is size at [] h = le-ltb size (at + 0) (omega arith)
past_is size at (n ∷ l) h = go (ltb size (at + n)) refl (λ k. past_is size (at + n) l k)
  where
    e : at + (n + sum l) ≡ at + n + sum l
    e = omega arith

    go : (b : Bool) → ltb size (at + n) ≡ b → (at + n ≤ size → ltb size (at + n + sum l) ≡ runs_past size (at + n) l) → ltb size (at + (n + sum l)) ≡ b || runs_past size (at + n) l
    go true q again = let k = ltb-true size (at + n) q in lt-ltb size (at + (n + sum l)) (omega arith)
    go false q again = ap (ltb size) e ∙ again (ltb-false size (at + n) q)

module _ (e s : List ℕ) where
  first_rows : writing_first e s ≡ refusal (writing_rows e s)
  unfolding writing_first writing_rows is_wrong_count file_size all_size contents_size count_of
  first_rows =
      let n = length e / 5 in
      let q = sum_is e n 0 in
      let p : ltb (length s) (sum (lengths_of e n 0)) ≡ runs_past (length s) 0 (lengths_of e n 0) =
      ap (ltb (length s)) zeroed ∙ past_is (length s) 0 (lengths_of e n 0) (omega arith) in
      ap (λ m. refusal ((not (eqb (length e % 5) 0) || (ltb 256 n || ltb 65536 (2 + 33 * n + m)), 18) ∷ (ltb (length s) m, 19) ∷ (ltb m (length s), 20) ∷ [])) q
      ∙ ap (λ b. refusal ((not (eqb (length e % 5) 0) || (ltb 256 n || ltb 65536 (2 + 33 * n + sum (lengths_of e n 0))), 18) ∷ (b, 19) ∷ (ltb (sum (lengths_of e n 0)) (length s), 20) ∷ [])) p
    where
      zeroed : sum (lengths_of e (length e / 5) 0) ≡ 0 + sum (lengths_of e (length e / 5) 0)
      zeroed = omega arith

  -- the rows of handshakes
  pub doors_row : (n i at : ℕ) → any_from (is_no_door_at e) n i ≡ any_of number1 (staged_from e s n i at)
  unfolding any_from any_of staged_from is_no_door_at number1 staged_at
  doors_row zero i at = refl
  doors_row (suc n) i at = ap₂ (λ a b. a || b) (not_less (door_at e i) doors_n) (doors_row n (i + 1) (at + bodies_at e i))

  pub areas_row : (n i at : ℕ) → at + bodies_size e n i ≤ length s → any_from (is_long_area_at e) n i ≡ any_of number2 (staged_from e s n i at)
  unfolding any_from any_of staged_from is_long_area_at number2 staged_at bodies_size bodies_at
  areas_row zero i at h = refl
  areas_row (suc n) i at h =
      let one : length (part at (length_at e i 0) s) ≡ length_at e i 0 = length_part at (length_at e i 0) s (omega arith) in
      let two : length (part (at + length_at e i 0) (length_at e i 1) s) ≡ length_at e i 1 = length_part (at + length_at e i 0) (length_at e i 1) s (omega arith) in
      ap₂ (λ a b. a || b) (ap₂ (λ a b. ltb 40 a || ltb 40 b) (sym one) (sym two)) (areas_row n (i + 1) (at + bodies_at e i) (omega arith))

  pub settings_row : (n i at : ℕ) → unfit_from e s n i at ≡ any_of number21 (staged_from e s n i at)
  unfolding unfit_from any_of staged_from is_unfit_in number21
  settings_row zero i at = refl
  settings_row (suc n) i at =
      let h = staged_at e s i at in
      ap₂ (λ a b. a || b) (ap₂ (λ a b. a || b) (setting_row h.first_setting h.first) (setting_row h.second_setting h.second)) (settings_row n (i + 1) (at + bodies_at e i))

  -- where 18, 19 and 20 do not apply the bodies are all there
  pub bodies_there : writing_first e s ≡ none → all_size e ≡ length s
  unfolding writing_first
  bodies_there q =
      let t = three_false (is_wrong_count e) (ltb (length s) (all_size e)) (ltb (all_size e) (length s)) 18 19 20 q in
      let a = ltb-false (length s) (all_size e) t.1 in
      let b = ltb-false (all_size e) (length s) t.2 in
      omega arith

  module _ (out : List ℕ) (q : writing_first e s ≡ none) where
    pub staged_rows_lem : writing_then e s (length out) ≡ refusal (staged_rows e s out)
    unfolding writing_then staged_rows staged file_size all_size contents_size count_of
    staged_rows_lem =
        let n = length e / 5 in
        let there : 0 + bodies_size e n 0 ≤ length s = omega (arith, bodies_there q) in
        let r₁ = doors_row n 0 0 in
        let r₂ = areas_row n 0 0 there in
        let r₃ = settings_row n 0 0 in
        let r₄ : ltb (length out) (2 + 33 * n + bodies_size e n 0) ≡ ltb (length out) (2 + 33 * n + sum (lengths_of e n 0)) = ap (λ m. ltb (length out) (2 + 33 * n + m)) (sum_is e n 0) in
        λ j. refusal ((r₁ j, 1) ∷ (r₂ j, 2) ∷ (r₄ j, 5) ∷ (r₃ j, 21) ∷ [])

writing_rise : (e s : List ℕ) → Rising 0 (writing_rows e s)
unfolding writing_rows
writing_rise e s = (omega arith, (omega arith, (omega arith, tt)))

staged_rise : (e s out : List ℕ) → Rising 0 (staged_rows e s out)
unfolding staged_rows
staged_rise e s out = (omega arith, (omega arith, (omega arith, (omega arith, tt))))

written_not : (x : Option ℕ) (n : ℕ) (out file : List ℕ) → ((written_unless x out file).says ≡ o.refused_with n) ↔ (x ≡ some n)
written_not none n out file = (λ e. let z : ◌≡◌ {A = ℕ} 0 1 = cc in absurd (omega arith), λ e. let z : ◌≡◌ {A = ℕ} 0 1 = cc in absurd (omega arith))
written_not (some k) n out file = (λ e. let q : k ≡ n = cc in ap some q, λ e. let q : k ≡ n = cc in ap o.refused_with q)

-- the writer refuses with n exactly when n is the least of 18, 19, 20 that applies, or none of these does and n is the least of 1, 2, 5, 21 that does
pub writer_refused_exactly : (e s out : List ℕ) (n : ℕ) → ((write_capture e s out).says ≡ o.refused_with n) ↔ LeastOf (writing_rows e s) (staged_rows e s out) n
unfolding write_capture
writer_refused_exactly e s out n =
    let both = least_of_two (writing_rows e s) (staged_rows e s out) n 0 0 (writing_rise e s) (staged_rise e s out) (writing_first e s) (writing_then e s (length out)) (first_rows e s) (λ q. staged_rows_lem e s out (first_rows e s ∙ q)) in
    let one = written_not (or_else (writing_first e s) (writing_then e s (length out))) n out (file_of (staged e s)) in
    (λ q. both.0 (one.0 q), λ q. one.1 (both.1 q))

-- a refusal writes nothing
pub refusal_writes_nothing : (e s out : List ℕ) (n : ℕ) → (write_capture e s out).says ≡ o.refused_with n → (write_capture e s out).buffer ≡ out
unfolding write_capture
refusal_writes_nothing e s out n = go (or_else (writing_first e s) (writing_then e s (length out)))
  where
    go : (x : Option ℕ) → (written_unless x out (file_of (staged e s))).says ≡ o.refused_with n → (written_unless x out (file_of (staged e s))).buffer ≡ out
    go none q = let z : ◌≡◌ {A = ℕ} 0 1 = cc in absurd (omega arith)
    go (some k) q = refl
