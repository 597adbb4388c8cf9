-- What the suboptions still to come add to those that the walk has passed. Assumes nothing.
use Prim.Native.Nat.{ℕ, zero, suc, ◌+◌, ◌-◌, ◌/◌, ◌%◌, ◌≤◌, ◌<◌}
use mathlib.Core.Path.{◌≡◌, refl, sym, ◌∙◌, ap, subst}
use mathlib.Core.List.{List, [], ◌∷◌}
use mathlib.Core.Bool.{Bool, true, false, cond, false≢true}
use native.Mathlib.Omega.{arith}
use lib.Dec.{eqb}
use lib.ListN.{length, get_or, set, length-set, replicate}
use Rattle.eno.specs.Walk.{end, fault, item, Reading, readable, faulty, before, items_of}
use Rattle.eno.specs.Suboption.{Sent, Suboption, global, tep, suboption_at, suboptions, globals, global_byte, role_bit, aware_bit, teps, name}
use Rattle.eno.proofs.Laws.Walk.{unroll_end, unroll_fault, unroll_item}
use Rattle.eno.proofs.Laws.Suboption.{suboption_onward}
use Rattle.suboption.specs.Within.{tep_ends}
use Rattle.suboptions.specs.Summary.{never, again, entries_from, entries_of, ill_formed, summed, summary_of}
use Rattle.suboptions.proofs.Laws.{summary_within}
use Rattle.suboptions.specs.declared.Entry.{Entry}
use Rattle.suboptions.specs.declared.Summary.{Summary}
use Rattle.suboption_summary.proofs.Entries.{entries_nil, entries_other, entries_known, bounded_set}

abbrev pub well_formed : ℕ → List Entry → Summary
well_formed g es = record { ill_formed = false; role = g % 2; aware = eqb (g / 2 % 2) 1; teps = es }

-- beside the entries es, whether no global byte was met yet, and the global byte g
abbrev summed_after : List Entry → Bool → ℕ → Reading (Unit {0}) Suboption → Summary
summed_after es first g (faulty f) = ill_formed
summed_after es first g (readable l) = well_formed (cond first (global_byte l) g) (entries_from 0x21 es (teps l))

-- a suboption's end leaves less of the option
pub item_onward : (o : List ℕ) (i j : ℕ) (x : Suboption) → item x j ≡ suboption_at o i → length o - j < length o - i
item_onward o i j x e = let w = suboption_onward o i x j (sym e) in omega arith

module _ (o : List ℕ) where
  pub record Told (es : List Entry) (i : ℕ) (first : Bool) (g : ℕ) : Type 0 where
    pub short : length o ≤ 255
    pub four : length es ≡ 4
    pub bounded : (k : ℕ) → (get_or es k never).times ≤ i
    pub none_yet : first ≡ true → g ≡ 0
    pub rest : summed_after es first g (items_of (suboption_at o) (length o) i) ≡ summary_of o

  pub told_start : (e : Entry) → e ≡ never → length o ≤ 255 → Told (replicate 4 e) 2 true 0
  unfolding suboptions summed role_bit aware_bit entries_of
  told_start e is short =
      rw is
      (record {
        short = short;
        four = refl;
        bounded = none_sent 4;
        none_yet = λ h. refl;
        rest = go (items_of (suboption_at o) (length o) 2) ∙ sym (summary_within o short);
      })
    where
      none_sent : (n k : ℕ) → (get_or (replicate n never) k never).times ≤ 2
      none_sent zero k = omega arith
      none_sent (suc n) zero = omega arith
      none_sent (suc n) (suc k) = none_sent n k

      go : (r : Reading (Unit {0}) Suboption) → summed_after (replicate 4 never) true 0 r ≡ summed r
      go (faulty f) = refl
      go (readable l) = refl

  module _ {es : List Entry} {i : ℕ} {first : Bool} {g : ℕ} (k : Told es i first g) where
    module _ {x : Suboption} {j : ℕ} (e : suboption_at o i ≡ item x j) where
      pub told_onward : (i < j) × (j ≤ length o)
      told_onward = suboption_onward o i x j e

      passed : summed_after es first g (before x (items_of (suboption_at o) (length o) j)) ≡ summary_of o
      passed = ap (summed_after es first g) (sym (unroll_item (suboption_at o) (length o) (suboption_onward o) i x j e)) ∙ k.rest

      pub still_bounded : (m : ℕ) → (get_or es m never).times ≤ j
      still_bounded m =
          let w = told_onward in
          let b = k.bounded m in
          omega arith

    module _ {y j : ℕ} (e : suboption_at o i ≡ item (global y) j) where
      pub told_global : first ≡ true → Told es j false y
      unfolding global_byte globals teps
      told_global t =
          record { short = k.short; four = k.four; bounded = still_bounded e; none_yet = λ h. absurd (false≢true h); rest = go (items_of (suboption_at o) (length o) j) ∙ passed e }
        where
          go : (r : Reading (Unit {0}) Suboption) → summed_after es false y r ≡ summed_after es first g (before (global y) r)
          go (faulty f) = refl
          go (readable l) = rw t

      pub told_global_again : first ≡ false → Told es j first g
      unfolding global_byte globals teps
      told_global_again t = record { short = k.short; four = k.four; bounded = still_bounded e; none_yet = k.none_yet; rest = go (items_of (suboption_at o) (length o) j) ∙ passed e }
        where
          go : (r : Reading (Unit {0}) Suboption) → summed_after es first g r ≡ summed_after es first g (before (global y) r)
          go (faulty f) = refl
          go (readable l) = rw t

    module _ {x : Sent} {j : ℕ} (e : suboption_at o i ≡ item (tep x) j) where
      -- its data ends at the next place, so its start and its length are single bytes
      pub told_fits : x.start + x.len ≤ 255
      told_fits =
          let w = told_onward e in
          let q = tep_ends o i x j e in
          omega (arith, k.short)

      -- one more TEP, by what it does to the entries
      told_tep : (es' : List Entry) → length es' ≡ 4 → ((m : ℕ) → (get_or es' m never).times ≤ j)
          → ((l : List Sent) → entries_from 0x21 es (x ∷ l) ≡ entries_from 0x21 es' l) → Told es' j first g
      unfolding global_byte globals teps
      told_tep es' four bounded h = record { short = k.short; four = four; bounded = bounded; none_yet = k.none_yet; rest = go (items_of (suboption_at o) (length o) j) ∙ passed e }
        where
          go : (r : Reading (Unit {0}) Suboption) → summed_after es' first g r ≡ summed_after es first g (before (tep x) r)
          go (faulty f) = refl
          go (readable l) = ap (well_formed (cond first (global_byte l) g)) (sym (h (teps l)))

      pub told_unknown : ((m : ℕ) → m < 4 → name x ≡ 0x21 + m → ⊥) → Told es j first g
      told_unknown h = told_tep es k.four (still_bounded e) (λ l. entries_other x l 0x21 es (λ m p q. h m (omega (arith, k.four)) q))

      pub told_known : (m : ℕ) → m < 4 → name x ≡ 0x21 + m → Told (set es m (again (get_or es m never) x)) j first g
      unfolding again
      told_known m h q =
          let w = told_onward e in
          let b = k.bounded m in
          let in-es : m < length es = omega (arith, k.four) in
          told_tep _ (length-set es m _ ∙ k.four) (bounded_set es m _ i j in-es k.bounded (omega arith) (omega arith)) (λ l. entries_known x l 0x21 es m in-es q)

    pub told_ill_formed : suboption_at o i ≡ fault tt → ill_formed ≡ summary_of o
    told_ill_formed e = ap (summed_after es first g) (sym (unroll_fault (suboption_at o) (length o) (suboption_onward o) i tt e)) ∙ k.rest

    pub told_end : suboption_at o i ≡ end → well_formed g es ≡ summary_of o
    unfolding global_byte globals teps
    told_end e =
        go first k.none_yet
        ∙ (ap (well_formed (cond first 0 g)) (sym (entries_nil 0x21 es))
        ∙ (ap (summed_after es first g) (sym (unroll_end (suboption_at o) (length o) (suboption_onward o) i e)) ∙ k.rest))
      where
        go : (f : Bool) → (f ≡ true → g ≡ 0) → well_formed g es ≡ well_formed (cond f 0 g) es
        go true z = rw (z refl)
        go false z = refl
