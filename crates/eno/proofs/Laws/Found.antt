-- What a found option is: it stands within the area and begins with its kind and its own length. The companion says found exactly where the part has bytes.
use Rattle.std.specs.Prelude.{ℕ, suc, ◌+◌, ◌-◌, ◌≤◌, ◌<◌, Bool, cond, ltb, drop}
use Rattle.std.proofs.Math.Path.{◌≡◌, refl, ap}
use Rattle.std.proofs.Common.{◌∙◌, ap₂, eqb-true, ltb-false, get_or-drop}
use mathlib.Core.List.{List, [], ◌∷◌}
use Rattle.std.proofs.Math.Bool.{true, false}
use native.Mathlib.Omega.{arith}
use Rattle.std.proofs.Math.Dec.{eqb}
use Rattle.std.proofs.Math.ListN.{length, get_or, length-drop}
use Rattle.std.proofs.Math.Seq.{length-take-le, get_or-take}
use Rattle.wire.specs.Bytes.{part}
use Rattle.eno.specs.Walk.{item, Reading, readable, faulty, listed, items_of}
use Rattle.eno.specs.Area.{Placed, Fault, Finding, refused, unreadable, missing, found, option_at, options, eno_kind, enos, choose, chosen, most_area, finding, part_of, says_found, status}
use Rattle.eno.specs.Laws.Walk.{Every}
use Rattle.eno.proofs.Laws.Walk.{every_item}
use Rattle.eno.specs.Laws.Area.{OptionCase, one_byte, with_length_lem}
use Rattle.eno.proofs.Laws.Area.{option_case}
use Rattle.eno.specs.Laws.Found.{Stands, EnoAt, FoundOption}

option_stands : (s : List ℕ) (i : ℕ) (x : Placed) (j : ℕ) → option_at s i ≡ item x j → Stands s x
option_stands s i x j e = go (option_case s i x j e)
  where
    go : OptionCase s i x j → Stands s x
    go (one_byte h k ex ej) =
        rw ex (record { kind_there = refl; length_there = λ z. absurd (z k); two = λ z. absurd (z k); within = omega arith })
    go (with_length_lem k0 k1 two fits ex ej) = rw ex (record { kind_there = refl; length_there = λ z. refl; two = λ z. two; within = fits })

pub options_stand : (s : List ℕ) → Every (Stands s) (listed (options s))
unfolding options items_of
options_stand s = every_item (Stands s) (option_at s) (option_stands s) (suc (length s - 0)) 0

-- from the list of the options to the one that is found
module _ (s : List ℕ) where
  abbrev Eno : Placed → Type 0
  Eno o = EnoAt s o.start o.len

  eno_stands : (o : Placed) → o.kind ≡ eno_kind → Stands s o → Eno o
  eno_stands o k h =
      let other : o.kind ≡ 1 → ⊥ = λ e. omega arith in
      record { kind_there = h.kind_there ∙ k; length_there = h.length_there other; two = h.two other; within = h.within }

  enos_stand : (l : List Placed) → Every (Stands s) l → Every Eno (enos l)
  unfolding enos
  enos_stand [] h = tt
  enos_stand (o ∷ l) h = go (eqb o.kind eno_kind) refl (enos_stand l h.1)
    where
      go : (b : Bool) → eqb o.kind eno_kind ≡ b → Every Eno (enos l) → Every Eno (cond b (o ∷ enos l) (enos l))
      go true e rest = (eno_stands o (eqb-true _ _ e) h.0, rest)
      go false e rest = rest

  module _ (i n : ℕ) where
    same_place : (o : Placed) → found o.start o.len ≡ found i n → Eno o → EnoAt s i n
    same_place o e h =
        let p : o.start ≡ i = cc in
        let q : o.len ≡ n = cc in
        rw (← p, ← q) h

    choose_stands : (syn : Bool) (l : List Placed) → Every Eno l → choose syn l ≡ found i n → EnoAt s i n
    unfolding choose
    choose_stands syn [] h e = let z : ◌≡◌ {A = ℕ} 0 1 = cc in absurd (omega arith)
    choose_stands syn (o ∷ []) h e = same_place o e h.0
    choose_stands true (o ∷ p ∷ l) h e = let z : ◌≡◌ {A = ℕ} 0 1 = cc in absurd (omega arith)
    choose_stands false (o ∷ p ∷ l) h e = same_place o e h.0

    chosen_stands : (syn : Bool) (r : Reading Fault Placed) → Every (Stands s) (listed r) → chosen syn r ≡ found i n → EnoAt s i n
    unfolding chosen
    chosen_stands syn (faulty f) h e = let z : ◌≡◌ {A = ℕ} 0 1 = cc in absurd (omega arith)
    chosen_stands syn (readable l) h e = choose_stands syn (enos l) (enos_stand l h) e

two_first : (l : List ℕ) → 2 ≤ length l → l ≡ get_or l 0 0 ∷ get_or l 1 0 ∷ drop 2 l
two_first [] h = absurd (omega arith)
two_first (x ∷ []) h = absurd (omega arith)
two_first (x ∷ y ∷ l) h = refl

module _ (s : List ℕ) (i n : ℕ) (h : EnoAt s i n) where
  part_long : length (part i n s) ≡ n
  unfolding part
  part_long = length-take-le n (drop i s) (let d = length-drop i s in let w = h.within in omega arith)

  part_byte : (k m : ℕ) → i + k ≡ m → k < n → get_or (part i n s) k 0 ≡ get_or s m 0
  unfolding part
  part_byte k m e l = get_or-take n (drop i s) k 0 l ∙ (get_or-drop i s k 0 ∙ ap (λ j. get_or s j 0) e)

  part_begins : part i n s ≡ 0x45 ∷ n ∷ drop 2 (part i n s)
  part_begins =
      let long = part_long in
      let two = h.two in
      let kind : get_or (part i n s) 0 0 ≡ 0x45 = part_byte 0 i (omega arith) (omega arith) ∙ h.kind_there in
      let len : get_or (part i n s) 1 0 ≡ n = part_byte 1 (i + 1) (omega arith) (omega arith) ∙ h.length_there in
      two_first (part i n s) (omega arith) ∙ ap₂ (λ x y. x ∷ y ∷ drop 2 (part i n s)) kind len

pub found_option : (s : List ℕ) (syn : Bool) (i n : ℕ) → finding s syn ≡ found i n → FoundOption s i n
unfolding finding
found_option s syn i n e = go (ltb most_area (length s)) refl e
  where
    go : (b : Bool) → ltb most_area (length s) ≡ b → cond b refused (chosen syn (options s)) ≡ found i n → FoundOption s i n
    go true t q = let z : ◌≡◌ {A = ℕ} 0 1 = cc in absurd (omega arith)
    go false t q =
        let h = chosen_stands s i n syn (options s) (options_stand s) q in
        record { begins = part_begins s i n h; long = part_long s i n h; two = h.two; within = h.within; short = ltb-false _ _ t }

module _ (s : List ℕ) (syn : Bool) where
  -- the option of an area has at most 40 bytes
  pub found_short : (o : List ℕ) → o ≡ part_of s (finding s syn) → length o ≤ 40
  unfolding part_of
  found_short o e = go (finding s syn) refl (ap length e)
    where
      go : (f : Finding) → finding s syn ≡ f → length o ≡ length (part_of s f) → length o ≤ 40
      go refused q l = omega arith
      go (unreadable x) q l = omega arith
      go missing q l = omega arith
      go (found i n) q l =
          let h = found_option s syn i n q in
          let w = h.long in
          let v = h.within in
          let u = h.short in
          omega arith

  -- where the companion says found, the part has bytes
  pub says_found_lem : status (finding s syn) ≡ says_found → part_of s (finding s syn) ≡ [] → ⊥
  unfolding status part_of
  says_found_lem p q = go (finding s syn) refl p q
    where
      go : (f : Finding) → finding s syn ≡ f → status f ≡ says_found → part_of s f ≡ [] → ⊥
      go refused e p q = let z : ◌≡◌ {A = ℕ} 0 1 = cc in omega arith
      go (unreadable f) e p q = let z : ◌≡◌ {A = ℕ} 0 1 = cc in omega arith
      go missing e p q = let z : ◌≡◌ {A = ℕ} 0 1 = cc in omega arith
      go (found i n) e p q = let h = found_option s syn i n e in let l = ap length q in omega arith

  -- where the part has bytes, the companion says found
  pub found_says : (part_of s (finding s syn) ≡ [] → ⊥) → status (finding s syn) ≡ says_found
  unfolding status part_of
  found_says p = go (finding s syn) p
    where
      go : (f : Finding) → (part_of s f ≡ [] → ⊥) → status f ≡ says_found
      go refused p = absurd (p refl)
      go (unreadable f) p = absurd (p refl)
      go missing p = absurd (p refl)
      go (found i n) p = refl

  -- so it says found exactly where the part has bytes
  pub found_part : (status (finding s syn) ≡ says_found → part_of s (finding s syn) ≡ [] → ⊥) × ((part_of s (finding s syn) ≡ [] → ⊥) → status (finding s syn) ≡ says_found)
  found_part = (says_found_lem, found_says)
