-- Laws of how the bytes at hand stand. Assumes nothing.
use Prim.Native.Nat.{ℕ, ◌≤◌, ◌<◌}
use mathlib.Core.Path.{◌≡◌, refl, sym, ◌∙◌, ap}
use mathlib.Core.List.{List}
use mathlib.Core.Bool.{Bool, true, false, false≢true}
use native.Mathlib.Omega.{arith}
use borrow.Author.Tests.{lt-ltb, le-ltb}
use lib.ListN.{length, take}
use lib.Seq.{take_all}
use Rattle.wire.specs.Bytes.{part, same_bytes, stands_at}
use Rattle.wire.specs.ByteLaws.{same_yes, same_eq, same_no}
use Rattle.wire.specs.Number.{number_at}
use Rattle.init_layout.specs.Layout.{most_length}
use Rattle.init_layout.specs.Reading.{agrees, length_at, unreadable, incomplete, whole, standing}

-- the same bytes either way round
same_swap : (a b : List ℕ) → same_bytes a b ≡ same_bytes b a
same_swap a b = go (same_bytes a b) refl
  where
    go : (t : Bool) → same_bytes a b ≡ t → t ≡ same_bytes b a
    go true e = same_yes a ∙ ap (λ l. same_bytes l a) (same_eq a b e)
    go false e = same_no b a (λ q. false≢true (sym e ∙ (ap (λ l. same_bytes a l) q ∙ sym (same_yes a))))

-- the magic
module _ (m p : List ℕ) where
  pub begins_short : length p < length m → stands_at m 0 p ≡ agrees m p
  unfolding agrees stands_at part
  begins_short h = same_swap (take (length p) m) p ∙ ap (λ l. same_bytes l (take (length p) m)) (sym (take_all (length m) p (omega arith)))

  pub begins_long : length m ≤ length p → stands_at p 0 m ≡ agrees m p
  unfolding agrees stands_at part
  begins_long h = ap (λ l. same_bytes (take (length m) p) l) (sym (take_all (length p) m h))

-- how the bytes stand
module _ (m : List ℕ) (fields : ℕ) (p : List ℕ) where
  pub stands_other : agrees m p ≡ false → unreadable ≡ standing m fields p
  unfolding standing
  stands_other e = simp e

  module _ (a : agrees m p ≡ true) (n : ℕ) (is_number : n ≡ number_at 4 p 4) where
    is_length : n ≡ length_at p
    unfolding length_at
    is_length = is_number

    pub stands_above : 4096 < n → unreadable ≡ standing m fields p
    unfolding standing most_length
    stands_above h = let k : 4096 < length_at p = omega (arith, is_length) in simp (a, lt-ltb _ _ k)

    module _ (most : n ≤ 4096) where
      most_at : length_at p ≤ most_length
      unfolding most_length
      most_at = omega (arith, is_length)

      pub stands_short : length p < 8 → incomplete ≡ standing m fields p
      unfolding standing
      stands_short h = simp (a, le-ltb _ _ most_at, lt-ltb _ _ h)

      module _ (head : 8 ≤ length p) where
        pub stands_narrow : n < fields → unreadable ≡ standing m fields p
        unfolding standing
        stands_narrow h = let k : length_at p < fields = omega (arith, is_length) in simp (a, le-ltb _ _ most_at, le-ltb _ _ head, lt-ltb _ _ k)

        pub stands_part_only : fields ≤ n → length p < n → incomplete ≡ standing m fields p
        unfolding standing
        stands_part_only h l =
            let k : fields ≤ length_at p = omega (arith, is_length) in
            let j : length p < length_at p = omega (arith, is_length) in
            simp (a, le-ltb _ _ most_at, le-ltb _ _ head, le-ltb _ _ k, lt-ltb _ _ j)

        pub stands_whole : fields ≤ n → n ≤ length p → whole n ≡ standing m fields p
        unfolding standing
        stands_whole h l =
            let k : fields ≤ length_at p = omega (arith, is_length) in
            let j : length_at p ≤ length p = omega (arith, is_length) in
            simp (a, le-ltb _ _ most_at, le-ltb _ _ head, le-ltb _ _ k, le-ltb _ _ j, is_length)
