-- Laws of the first cipher that passes a test. Assumes nothing.
use Rattle.std.specs.Prelude.{ℕ, suc, ◌≡◌, ◌+◌, ◌*◌, ◌-◌, ◌≤◌, ◌<◌, List, Bool, true, false, cond, get_or, refl}
use Rattle.std.proofs.Common.{sym, ◌∙◌, ap, arith}
use Rattle.std.proofs.Math.Option.{none, some}
use Rattle.wire.specs.Number.{number_at}
use Rattle.init_layout.specs.Layout.{init1}
use Rattle.init_layout.specs.Reading.{count_at, ciphers_at, first_that}

-- the first cipher that passes a test, i passed
module _ (test : ℕ → Bool) (p : List ℕ) (at count : ℕ) where
  pub record Passed (i : ℕ) : Type 0 where
    pub left : ℕ
    pub sum : i + left ≡ count
    pub later : first_that test (ciphers_at count p at) ≡ first_that test (ciphers_at left p (at + 2 * i))

  pub passed_start : Passed 0
  passed_start = let e : at ≡ at + 2 * 0 = omega arith in record { left = count; sum = omega arith; later = ap (λ k. first_that test (ciphers_at count p k)) e }

  module _ (i : ℕ) (so_far : Passed i) where
    pub passed_all : count ≤ i → none ≡ first_that test (ciphers_at count p at)
    unfolding ciphers_at first_that
    passed_all h =
        let e : so_far.left ≡ 0 = omega (arith, so_far.sum) in
        sym (so_far.later ∙ ap (λ k. first_that test (ciphers_at k p (at + 2 * i))) e)

    module _ (in_List : i < count) (c : ℕ) (is-cipher : c ≡ number_at 2 p (at + 2 * i)) where
      one_more : so_far.left ≡ suc (so_far.left - 1)
      one_more = omega (arith, so_far.sum)

      next : first_that test (ciphers_at count p at) ≡ cond (test c) (some c) (first_that test (ciphers_at (so_far.left - 1) p (at + 2 * i + 2)))
      unfolding ciphers_at first_that
      next =
          so_far.later
          ∙ (ap (λ k. first_that test (ciphers_at k p (at + 2 * i))) one_more
          ∙ ap (λ x. cond (test x) (some x) (first_that test (ciphers_at (so_far.left - 1) p (at + 2 * i + 2)))) (sym is-cipher))

      pub passed_here : test c ≡ true → some c ≡ first_that test (ciphers_at count p at)
      passed_here e = sym (next ∙ ap (λ b. cond b (some c) (first_that test (ciphers_at (so_far.left - 1) p (at + 2 * i + 2)))) e)

      pub passed_next : test c ≡ false → Passed (i + 1)
      passed_next e =
          let place : at + 2 * i + 2 ≡ at + 2 * (i + 1) = omega arith in
          record {
            left = so_far.left - 1;
            sum = omega (arith, so_far.sum);
            later =
                next
                ∙ (ap (λ b. cond b (some c) (first_that test (ciphers_at (so_far.left - 1) p (at + 2 * i + 2)))) e
                ∙ ap (λ k. first_that test (ciphers_at (so_far.left - 1) p k)) place);
          }

-- the ciphers that Init1 lists
pub of_init1 : (test : ℕ → Bool) (p : List ℕ) (count : ℕ) → count ≡ get_or p 8 1 → first_that test (ciphers_at count p 9) ≡ first_that test (ciphers_at (count_at init1 p) p 9)
unfolding count_at
of_init1 test p count e = ap (λ k. first_that test (ciphers_at k p 9)) e
