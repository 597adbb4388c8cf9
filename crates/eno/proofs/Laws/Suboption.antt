-- The cases of `suboption_at`, each from facts about numbers.
use Rattle.std.specs.Prelude.{ℕ, ◌+◌, ◌-◌, ◌≤◌, ◌<◌, ◌≡◌, refl, List, true, false, ◌&&◌}
use Rattle.std.proofs.Common.{◌∙◌}
use native.Mathlib.Omega.{arith}
use Rattle.std.proofs.Math.Decide.{dec_lt}
use borrow.Author.Tests.{le-ltb, lt-ltb, le-leb, lt-leb}
use Rattle.std.proofs.Math.ListN.{length, get_or, get_or-eq_default}
use Rattle.eno.specs.Walk.{end, fault, item}
use Rattle.eno.specs.Suboption.{Suboption, global, tep, suboption_at}
use Rattle.eno.proofs.Laws.Walk.{Onward}
use Rattle.eno.specs.Laws.Suboption.{sent_as, SuboptionCase, a_global, a_bare, to_end, a_counted}

module _ (o : List ℕ) (i : ℕ) where
  pub suboption_end : length o ≤ i → end ≡ suboption_at o i
  unfolding suboption_at
  suboption_end h = simp (le-ltb _ _ h)

  module _ (in-option : i < length o) where
    pub suboption_global : get_or o i 0 < 0x20 → item (global (get_or o i 0)) (i + 1) ≡ suboption_at o i
    unfolding suboption_at
    suboption_global h = simp (lt-ltb _ _ in-option, lt-ltb _ _ h)

    pub suboption_bare : 0x20 ≤ get_or o i 0 → get_or o i 0 < 0x80 → item (tep (sent_as false (get_or o i 0) (i + 1) 0)) (i + 1) ≡ suboption_at o i
    unfolding suboption_at
    suboption_bare g h = simp (lt-ltb _ _ in-option, le-ltb _ _ g, lt-ltb _ _ h)

    pub suboption_to_end : 0xa0 ≤ get_or o i 0 → item (tep (sent_as false (get_or o i 0) (i + 1) (length o - (i + 1)))) (length o) ≡ suboption_at o i
    unfolding suboption_at
    suboption_to_end h =
        let g1 : 0x20 ≤ get_or o i 0 = omega arith in
        let g2 : 0x80 ≤ get_or o i 0 = omega arith in
        simp (lt-ltb _ _ in-option, le-ltb _ _ g1, le-ltb _ _ g2, le-leb _ _ h)

    module _ (low : 0x80 ≤ get_or o i 0) (high : get_or o i 0 < 0xa0) where
      pub suboption_no_tep : get_or o (i + 1) 0 < 0xa0 → fault tt ≡ suboption_at o i
      unfolding suboption_at
      suboption_no_tep h =
          let g1 : 0x20 ≤ get_or o i 0 = omega arith in
          simp (lt-ltb _ _ in-option, le-ltb _ _ g1, le-ltb _ _ low, lt-leb _ _ high, lt-leb _ _ h)

      pub suboption_cut : length o ≤ i + 1 → fault tt ≡ suboption_at o i
      suboption_cut h = let z = get_or-eq_default o 0 h in suboption_no_tep (omega arith)

      module _ (is_tep : 0xa0 ≤ get_or o (i + 1) 0) where
        pub suboption_over : length o < i + 2 + (get_or o i 0 - 0x80 + 1) → fault tt ≡ suboption_at o i
        unfolding suboption_at
        suboption_over h =
            let g1 : 0x20 ≤ get_or o i 0 = omega arith in
            simp (lt-ltb _ _ in-option, le-ltb _ _ g1, le-ltb _ _ low, lt-leb _ _ high, le-leb _ _ is_tep, lt-leb _ _ h)

        -- k and n are as the code computes them
        pub suboption_counted : (k n : ℕ) → k ≡ i + 2 → n ≡ get_or o i 0 - 0x80 + 1 → k + n ≤ length o
            → item (tep (sent_as true (get_or o (i + 1) 0) k n)) (k + n) ≡ suboption_at o i
        unfolding suboption_at
        suboption_counted k n ek en h =
            let g1 : 0x20 ≤ get_or o i 0 = omega arith in
            let g : i + 2 + (get_or o i 0 - 0x80 + 1) ≤ length o = omega arith in
            rw (ek, en) (simp (lt-ltb _ _ in-option, le-ltb _ _ g1, le-ltb _ _ low, lt-leb _ _ high, le-leb _ _ is_tep, le-leb _ _ g))

pub suboption_case : (o : List ℕ) (i : ℕ) (x : Suboption) (j : ℕ) → suboption_at o i ≡ item x j → SuboptionCase o i x j
suboption_case o i x j e =
    let X = get_or o i 0 in
    elim (dec_lt i (length o)) [
      | no h ↦ let p = suboption_end o i (omega arith) in let z : ◌≡◌ {A = ℕ} 0 1 = cc in absurd (omega arith)
      | yes h ↦ elim (dec_lt X 0x20) [
        | yes g ↦ let p = suboption_global o i h g in a_global h g (cc) (cc)
        | no g ↦ elim (dec_lt X 0x80) [
          | yes t ↦ let p = suboption_bare o i h (omega arith) t in a_bare h (omega arith) t (cc) (cc)
          | no t ↦ elim (dec_lt X 0xa0) [
            | no r ↦ let p = suboption_to_end o i h (omega arith) in to_end h (omega arith) (cc) (cc)
            | yes r ↦ elim (dec_lt (get_or o (i + 1) 0) 0xa0) [
              | yes y ↦ let p = suboption_no_tep o i h (omega arith) r y in let z : ◌≡◌ {A = ℕ} 0 1 = cc in absurd (omega arith)
              | no y ↦ elim (dec_lt (length o) (i + 2 + (X - 0x80 + 1))) [
                | yes l ↦ let p = suboption_over o i h (omega arith) r (omega arith) l in let z : ◌≡◌ {A = ℕ} 0 1 = cc in absurd (omega arith)
                | no l ↦ let p = suboption_counted o i h (omega arith) r (omega arith) (i + 2) (X - 0x80 + 1) refl refl (omega arith) in a_counted (X - 0x80 + 1) (omega arith) r (omega arith) refl (omega arith) (cc) (cc)
              ]
            ]
          ]
        ]
      ]
    ]

pub suboption_onward : (o : List ℕ) → Onward (suboption_at o) (length o)
suboption_onward o i x j e = go (suboption_case o i x j e)
  where
    go : SuboptionCase o i x j → (i < j) × (j ≤ length o)
    go (a_global h g ex ej) = (omega arith, omega arith)
    go (a_bare h g t ex ej) = (omega arith, omega arith)
    go (to_end h r ex ej) = (omega arith, omega arith)
    go (a_counted n low high y en fits ex ej) = (omega arith, omega arith)

-- a walk ends only at the end of the option
pub suboption_ended : (o : List ℕ) (i : ℕ) → suboption_at o i ≡ end → length o ≤ i
suboption_ended o i e =
    let X = get_or o i 0 in
    elim (dec_lt i (length o)) [
      | no h ↦ omega arith
      | yes h ↦ elim (dec_lt X 0x20) [
        | yes g ↦ let p = suboption_global o i h g in let z : ◌≡◌ {A = ℕ} 0 1 = cc in absurd (omega arith)
        | no g ↦ elim (dec_lt X 0x80) [
          | yes t ↦ let p = suboption_bare o i h (omega arith) t in let z : ◌≡◌ {A = ℕ} 0 1 = cc in absurd (omega arith)
          | no t ↦ elim (dec_lt X 0xa0) [
            | no r ↦ let p = suboption_to_end o i h (omega arith) in let z : ◌≡◌ {A = ℕ} 0 1 = cc in absurd (omega arith)
            | yes r ↦ elim (dec_lt (get_or o (i + 1) 0) 0xa0) [
              | yes y ↦ let p = suboption_no_tep o i h (omega arith) r y in let z : ◌≡◌ {A = ℕ} 0 1 = cc in absurd (omega arith)
              | no y ↦ elim (dec_lt (length o) (i + 2 + (X - 0x80 + 1))) [
                | yes l ↦ let p = suboption_over o i h (omega arith) r (omega arith) l in let z : ◌≡◌ {A = ℕ} 0 1 = cc in absurd (omega arith)
                | no l ↦ let p = suboption_counted o i h (omega arith) r (omega arith) (i + 2) (X - 0x80 + 1) refl refl (omega arith) in let z : ◌≡◌ {A = ℕ} 0 1 = cc in absurd (omega arith)
              ]
            ]
          ]
        ]
      ]
    ]
