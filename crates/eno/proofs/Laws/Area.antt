-- The cases of `option_at`, each from facts about numbers.
use Rattle.std.specs.Prelude.{ℕ, ◌+◌, ◌-◌, ◌≤◌, ◌<◌, ◌≡◌, List, ◌&&◌, length}
use Rattle.std.proofs.Common.{◌∙◌, ap}
use native.Mathlib.Omega.{arith}
use Rattle.std.proofs.Math.Decide.{dec_lt, ℕ_discrete}
use borrow.Author.Tests.{le-ltb, lt-ltb, le-leb, lt-leb, eq-eqb, ne_eqb}
use Rattle.std.proofs.Math.ListN.{get_or, get_or-eq_default}
use Rattle.eno.specs.Walk.{end, fault, item}
use Rattle.eno.specs.Area.{Placed, option_at}
use Rattle.eno.proofs.Laws.Walk.{Onward}
use Rattle.eno.specs.Laws.Area.{placed_at, fault_at, OptionCase, one_byte, with_length_lem, OptionEnds}

module _ (s : List ℕ) (i : ℕ) where
  pub option_end : length s ≤ i → end ≡ option_at s i
  unfolding option_at
  option_end h = simp (le-ltb _ _ h)

  module _ (in_area_lem : i < length s) where
    pub option_zero : get_or s i 0 ≡ 0 → end ≡ option_at s i
    unfolding option_at
    option_zero e = simp (lt-ltb _ _ in_area_lem, eq-eqb _ _ e)

    pub option_one : get_or s i 0 ≡ 1 → item (placed_at s i 1) (i + 1) ≡ option_at s i
    unfolding option_at
    option_one e =
        let z : get_or s i 0 ≡ 0 → ⊥ = λ h. omega arith in
        simp (lt-ltb _ _ in_area_lem, ne_eqb _ _ z, eq-eqb _ _ e)

    module _ (not-zero : get_or s i 0 ≡ 0 → ⊥) (not-one : get_or s i 0 ≡ 1 → ⊥) where
      pub option_short : get_or s (i + 1) 0 < 2 → fault (fault_at s i) ≡ option_at s i
      unfolding option_at
      option_short h = simp (lt-ltb _ _ in_area_lem, ne_eqb _ _ not-zero, ne_eqb _ _ not-one, lt-leb _ _ h)

      pub option_cut : length s ≤ i + 1 → fault (fault_at s i) ≡ option_at s i
      option_cut h = let z = get_or-eq_default s 0 h in option_short (omega arith)

      module _ (two : 2 ≤ get_or s (i + 1) 0) where
        pub option_over : length s < i + get_or s (i + 1) 0 → fault (fault_at s i) ≡ option_at s i
        unfolding option_at
        option_over h = simp (lt-ltb _ _ in_area_lem, ne_eqb _ _ not-zero, ne_eqb _ _ not-one, le-leb _ _ two, lt-leb _ _ h)

        pub option_long : i + get_or s (i + 1) 0 ≤ length s → item (placed_at s i (get_or s (i + 1) 0)) (i + get_or s (i + 1) 0) ≡ option_at s i
        unfolding option_at
        option_long h = simp (lt-ltb _ _ in_area_lem, ne_eqb _ _ not-zero, ne_eqb _ _ not-one, le-leb _ _ two, le-leb _ _ h)

pub option_case : (s : List ℕ) (i : ℕ) (x : Placed) (j : ℕ) → option_at s i ≡ item x j → OptionCase s i x j
option_case s i x j e =
    elim (dec_lt i (length s)) [
      | no h ↦ let p = option_end s i (omega arith) in let z : ◌≡◌ {A = ℕ} 0 1 = cc in absurd (omega arith)
      | yes h ↦ elim (ℕ_discrete (get_or s i 0) 0) [
        | yes k0 ↦ let p = option_zero s i h k0 in let z : ◌≡◌ {A = ℕ} 0 1 = cc in absurd (omega arith)
        | no k0 ↦ elim (ℕ_discrete (get_or s i 0) 1) [
          | yes k1 ↦ let p = option_one s i h k1 in one_byte h k1 (cc) (cc)
          | no k1 ↦ elim (dec_lt (get_or s (i + 1) 0) 2) [
            | yes n2 ↦ let p = option_short s i h k0 k1 n2 in let z : ◌≡◌ {A = ℕ} 0 1 = cc in absurd (omega arith)
            | no n2 ↦ elim (dec_lt (length s) (i + get_or s (i + 1) 0)) [
              | yes l ↦ let p = option_over s i h k0 k1 (omega arith) l in let z : ◌≡◌ {A = ℕ} 0 1 = cc in absurd (omega arith)
              | no l ↦ let p = option_long s i h k0 k1 (omega arith) (omega arith) in with_length_lem k0 k1 (omega arith) (omega arith) (cc) (cc)
            ]
          ]
        ]
      ]
    ]

pub option_ends : (s : List ℕ) (i : ℕ) (x : Placed) (j : ℕ) → option_at s i ≡ item x j → OptionEnds s i x j
option_ends s i x j e = go (option_case s i x j e)
  where
    go : OptionCase s i x j → OptionEnds s i x j
    go (one_byte h k ex ej) =
        let a : x.start ≡ i = ap (λ (o : Placed). o.start) ex in
        let b : x.len ≡ 1 = ap (λ (o : Placed). o.len) ex in
        record { onward = omega arith; within = omega arith; starts = a; ends = omega arith }
    go (with_length_lem k0 k1 two fits ex ej) =
        let a : x.start ≡ i = ap (λ (o : Placed). o.start) ex in
        let b : x.len ≡ get_or s (i + 1) 0 = ap (λ (o : Placed). o.len) ex in
        record { onward = omega arith; within = omega arith; starts = a; ends = omega arith }

pub option_onward : (s : List ℕ) → Onward (option_at s) (length s)
option_onward s i x j e = let h = option_ends s i x j e in (h.onward, h.within)

-- an end that is not the area's is an end mark
pub option_ended : (s : List ℕ) (i : ℕ) → i < length s → option_at s i ≡ end → get_or s i 0 ≡ 0
option_ended s i h e =
    elim (ℕ_discrete (get_or s i 0) 0) [
      | yes k0 ↦ k0
      | no k0 ↦ elim (ℕ_discrete (get_or s i 0) 1) [
        | yes k1 ↦ let p = option_one s i h k1 in let z : ◌≡◌ {A = ℕ} 0 1 = cc in absurd (omega arith)
        | no k1 ↦ elim (dec_lt (get_or s (i + 1) 0) 2) [
          | yes n2 ↦ let p = option_short s i h k0 k1 n2 in let z : ◌≡◌ {A = ℕ} 0 1 = cc in absurd (omega arith)
          | no n2 ↦ elim (dec_lt (length s) (i + get_or s (i + 1) 0)) [
            | yes l ↦ let p = option_over s i h k0 k1 (omega arith) l in let z : ◌≡◌ {A = ℕ} 0 1 = cc in absurd (omega arith)
            | no l ↦ let p = option_long s i h k0 k1 (omega arith) (omega arith) in let z : ◌≡◌ {A = ℕ} 0 1 = cc in absurd (omega arith)
          ]
        ]
      ]
    ]
