-- Laws of the byte that settles that an Init message is not readable: each way through the tests. Assumes nothing.
use Rattle.std.specs.Prelude.{ℕ, suc, ◌+◌, ◌-◌, ◌%◌, ◌≤◌, ◌<◌, ◌≡◌, List, Bool, true, false, ◌&&◌, length, take}
use Rattle.std.proofs.Common.{sym, ◌∙◌, add-one, arith, lt-ltb, le-ltb, eq-eqb, ne_eqb, take_all}
use Rattle.std.proofs.Math.Path.{ap}
use Rattle.std.proofs.Math.Dec.{eqb}
use Rattle.wire.specs.Number.{number_at}
use Rattle.init_layout.specs.Layout.{Init}
use Rattle.init_layout.specs.Reading.{ciphers_from, Standing, standing_of}
use Rattle.pieces_steps.specs.Kinds.{kind_of}
use Rattle.pieces_layout.specs.Step.{is_unreadable, settles}

-- where the ciphers begin
pub from_two : (two : Bool) → two ≡ true → (8 ≡ ciphers_from (kind_of two)) × (8 ≤ 9) × (8 ≤ 8)
unfolding ciphers_from
from_two two e = (ap (λ t. ciphers_from (kind_of t)) (sym e), omega arith, omega arith)

pub from_one : (two : Bool) → two ≡ false → (9 ≡ ciphers_from (kind_of two)) × (9 ≤ 9) × (8 ≤ 9)
unfolding ciphers_from
from_one two e = (ap (λ t. ciphers_from (kind_of t)) (sym e), omega arith, omega arith)

-- what the one-shot reader says of the one message or the other
pub refused_as : (two is : Bool) (keys : ℕ) (s : List ℕ) (b : Bool) (x : Standing) → b ≡ is_unreadable x → x ≡ standing_of (kind_of is) keys s → two ≡ is → b ≡ is_unreadable (standing_of (kind_of two) keys s)
refused_as two is keys s b x e q h = e ∙ (ap is_unreadable q ∙ ap (λ t. is_unreadable (standing_of (kind_of t) keys s)) (sym h))

module _ (i : Init) (keys : ℕ) (g : List ℕ) (n from : ℕ) (is-from : from ≡ ciphers_from i) where
  module _ (early : n < from) where
    at_head : is_unreadable (standing_of i keys (take (suc n) g)) ≡ settles i keys g n
    unfolding settles
    at_head = let h : n < ciphers_from i = rw is-from at early in rw (lt-ltb n (ciphers_from i) h)

    pub head_part : (b : Bool) (s : List ℕ) → s ≡ take (n + 1) g → b ≡ is_unreadable (standing_of i keys s) → b ≡ settles i keys g n
    head_part b s q e = e ∙ (ap (λ l. is_unreadable (standing_of i keys l)) (q ∙ ap (λ k. take k g) (add-one n)) ∙ at_head)

    pub head_all : length g < n + 1 → (b : Bool) → b ≡ is_unreadable (standing_of i keys g) → b ≡ settles i keys g n
    head_all h b e = e ∙ (ap (λ l. is_unreadable (standing_of i keys l)) (sym (take_all (suc n) g (omega arith))) ∙ at_head)

  module _ (late : from ≤ n) where
    behind : (eqb ((n - from) % 2) 1 && eqb (number_at 2 g (n - 1)) 0) ≡ settles i keys g n
    unfolding settles
    behind =
        let h : ciphers_from i ≤ n = rw is-from at late in
        ap (λ k. eqb ((n - k) % 2) 1 && eqb (number_at 2 g (n - 1)) 0) is-from ∙ (rw (le-ltb n (ciphers_from i) h))

    pub first_half_lem : ((n - from) % 2 ≡ 1 → ⊥) → false ≡ settles i keys g n
    first_half_lem d = ap (λ b. b && eqb (number_at 2 g (n - 1)) 0) (sym (ne_eqb ((n - from) % 2) 1 d)) ∙ behind

    pub second_half_lem : (n - from) % 2 ≡ 1 → (cipher : ℕ) → cipher ≡ number_at 2 g (n - 1) → eqb cipher 0 ≡ settles i keys g n
    second_half_lem e cipher q =
        ap (λ x. eqb x 0) q ∙ (ap (λ b. b && eqb (number_at 2 g (n - 1)) 0) (sym (eq-eqb ((n - from) % 2) 1 e)) ∙ behind)
