-- Void ciphers with one byte more: the pair that it finishes decides, and behind the list nothing does. Assumes nothing.
use Prim.Native.Nat.{ℕ, zero, suc, ◌+◌, ◌*◌, ◌-◌, ◌%◌, ◌≤◌, ◌<◌}
use Rattle.std.specs.Prelude.{◌≡◌, List, [], ◌∷◌, ◌++◌, Bool, true, false, ◌&&◌, ◌||◌}
use Rattle.std.proofs.Math.Path.{refl, ap}
use Rattle.std.proofs.Common.{sym, ◌∙◌, length-append}
use Rattle.std.proofs.Math.Decide.{dec_lt}
use native.Mathlib.Omega.{arith}
use Rattle.std.proofs.Math.Dec.{eqb}
use Rattle.std.proofs.Math.ListN.{length}
use Rattle.wire.specs.Number.{number_at}
use Rattle.init_layout.specs.Reading.{void_from}
use Rattle.init_layout.proofs.FieldLaws.{number_settled}
use Rattle.init_layout.proofs.VoidLaws.{or_false, void_at_lem, void_past}

module _ (p : List ℕ) (b : ℕ) where
  abbrev q : List ℕ
  q = p ++ (b ∷ [])

  one_more : length q ≡ length p + 1
  one_more = length-append p (b ∷ [])

  -- a pair that was at hand before
  pair_before : (n j : ℕ) → j + 1 < length p → void_from (suc n) p j ≡ false → (eqb (number_at 2 p j) 0 ≡ false) × (void_from n p (j + 2) ≡ false)
  pair_before n j h e = or_false (eqb (number_at 2 p j) 0) (void_from n p (j + 2)) (sym (void_at_lem n j p h) ∙ e)

  pair_clear : (n j : ℕ) → j + 1 < length p → void_from (suc n) p j ≡ false → void_from (suc n) q j ≡ void_from n q (j + 2)
  pair_clear n j h e =
      let s : number_at 2 q j ≡ number_at 2 p j = number_settled 2 j p (b ∷ []) (omega arith) in
      void_at_lem n j q (omega (arith, one_more)) ∙ ap (λ x. x || void_from n q (j + 2)) (ap (λ x. eqb x 0) s ∙ (pair_before n j h e).0)

  -- behind the list
  pub void_behind : (n j : ℕ) → j + 2 * n ≤ length p → void_from n p j ≡ false → void_from n q j ≡ false
  unfolding void_from
  void_behind zero j h e = refl
  void_behind (suc n) j h e = pair_clear n j (omega arith) e ∙ void_behind n (j + 2) (omega arith) (pair_before n j (omega arith) e).1

  -- the pair that the byte finishes, if it finishes one
  unfoldable pub void_finishes : ℕ → Bool
  void_finishes j = eqb ((length p - j) % 2) 1 && eqb (number_at 2 q (length p - 1)) 0

  first_byte : (j : ℕ) → length p ≡ j → void_finishes j ≡ false
  unfolding void_finishes
  first_byte j h = let e : (length p - j) % 2 ≡ 0 = omega arith in ap (λ x. eqb x 1 && eqb (number_at 2 q (length p - 1)) 0) e

  second_byte : (j : ℕ) → length p ≡ j + 1 → void_finishes j ≡ eqb (number_at 2 q j) 0
  unfolding void_finishes
  second_byte j h =
      let e : (length p - j) % 2 ≡ 1 = omega arith in
      let f : length p - 1 ≡ j = omega arith in
      ap (λ x. eqb x 1 && eqb (number_at 2 q (length p - 1)) 0) e ∙ ap (λ x. eqb (number_at 2 q x) 0) f

  later_byte : (j : ℕ) → j + 2 ≤ length p → void_finishes (j + 2) ≡ void_finishes j
  unfolding void_finishes
  later_byte j h = let e : (length p - (j + 2)) % 2 ≡ (length p - j) % 2 = omega arith in ap (λ x. eqb x 1 && eqb (number_at 2 q (length p - 1)) 0) e

  or_no : (x : Bool) → x || false ≡ x
  or_no true = refl
  or_no false = refl

  pub void_among : (n j : ℕ) → j ≤ length p → length p < j + 2 * n → void_from n p j ≡ false → void_from n q j ≡ void_finishes j
  void_among zero j low high e = absurd (omega arith)
  void_among (suc n) j low high e = elim (dec_lt (j + 1) (length p)) [
    | yes h ↦ pair_clear n j h e ∙ (void_among n (j + 2) (omega arith) (omega arith) (pair_before n j h e).1 ∙ later_byte j (omega arith))
    | no h ↦ elim (dec_lt j (length p)) [
      | no k ↦ void_past (suc n) j q (omega (arith, one_more)) ∙ sym (first_byte j (omega arith))
      | yes k ↦ void_at_lem n j q (omega (arith, one_more))
          ∙ (ap (λ x. eqb (number_at 2 q j) 0 || x) (void_past n (j + 2) q (omega (arith, one_more))) ∙ (or_no (eqb (number_at 2 q j) 0) ∙ sym (second_byte j (omega arith))))
    ]
  ]
