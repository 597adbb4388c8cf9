-- What is found of the options still to come, beside the ENO options already seen.
use Prim.Native.Nat.{ℕ, zero, suc, ◌+◌, ◌-◌, ◌≤◌, ◌<◌}
use mathlib.Core.Path.{◌≡◌, refl, sym, ◌∙◌, ap}
use mathlib.Core.List.{List, [], ◌∷◌, ◌++◌}
use mathlib.Core.Bool.{Bool, true, false, cond}
use native.Mathlib.Omega.{arith}
use borrow.Author.Tests.{eq-eqb, ne_eqb, lt-ltb, le-ltb}
use lib.ListN.{length}
use Rattle.eno.specs.Walk.{end, fault, item, Reading, readable, faulty, before, items_of}
use Rattle.eno.specs.Area.{Placed, Fault, Finding, refused, unreadable, missing, found, option_at, options, enos, choose, chosen, finding}
use Rattle.eno.proofs.Laws.Walk.{unroll_end, unroll_fault, unroll_item}
use Rattle.eno.proofs.Laws.Area.{option_ends, option_onward}

abbrev eno : ℕ → ℕ → Placed
eno i n = record { kind = 0x45; start = i; len = n }

-- the ENO options that the code has seen: two stand for any more
abbrev pub kept : ℕ → ℕ → ℕ → List Placed
kept zero i n = []
kept (suc zero) i n = eno i n ∷ []
kept (suc (suc k)) i n = eno i n ∷ eno i n ∷ []

-- what is found where l are the ENO options seen, and r is what the rest of the area reads as
abbrev pub after : Bool → List Placed → Reading Fault Placed → Finding
after syn l (faulty f) = unreadable f
after syn l (readable r) = choose syn (l ++ enos r)

pub after_start : (syn : Bool) (r : Reading Fault Placed) → after syn [] r ≡ chosen syn r
unfolding chosen
after_start syn (faulty f) = refl
after_start syn (readable r) = refl

-- one option more
module _ (syn : Bool) (o : Placed) where
  pub after_other : (l : List Placed) (r : Reading Fault Placed) → (o.kind ≡ 0x45 → ⊥) → after syn l (before o r) ≡ after syn l r
  unfolding enos
  after_other l (faulty f) h = refl
  after_other l (readable r) h = simp (ne_eqb _ _ h)

  pub after_first : (k i n i' n' : ℕ) (r : Reading Fault Placed) → k ≡ 0 → o.kind ≡ 0x45 → o.start ≡ i → o.len ≡ n
      → after syn (kept k i' n') (before o r) ≡ after syn (kept 1 i n) r
  unfolding enos choose
  after_first (suc k) i n i' n' r z e p q = absurd (omega arith)
  after_first zero i n i' n' (faulty f) z e p q = refl
  after_first zero i n i' n' (readable r) z e p q = simp (eq-eqb _ _ e) (go (enos r))
    where
      go : (l : List Placed) → choose syn (o ∷ l) ≡ choose syn (eno i n ∷ l)
      go [] = cc
      go (x ∷ l) = rw (p, q)

  pub after_again : (k i n : ℕ) (r : Reading Fault Placed) → (k ≡ 0 → ⊥) → o.kind ≡ 0x45
      → after syn (kept k i n) (before o r) ≡ after syn (kept 2 i n) r
  unfolding enos choose
  after_again zero i n r z e = absurd (z refl)
  after_again (suc zero) i n (faulty f) z e = refl
  after_again (suc (suc k)) i n (faulty f) z e = refl
  after_again (suc zero) i n (readable r) z e = simp (eq-eqb _ _ e)
  after_again (suc (suc k)) i n (readable r) z e = refl

-- what is answered when no option is left
module _ (syn : Bool) (k i n : ℕ) where
  pub left_none : k ≡ 0 → after syn (kept k i n) (readable []) ≡ missing
  unfolding enos choose
  left_none e = rw e

  pub left_one : (k ≡ 0 → ⊥) → (k ≡ 2 → ⊥) → k ≤ 2 → after syn (kept k i n) (readable []) ≡ found i n
  unfolding enos choose
  left_one z t h = rw one
    where
      one : k ≡ 1
      one = omega arith

  pub left_two : k ≡ 2 → after syn (kept k i n) (readable []) ≡ cond syn missing (found i n)
  unfolding enos choose
  left_two e = rw e

-- an option's end leaves less of the area
pub item_onward : (s : List ℕ) (i j kind n : ℕ) → item (record { kind = kind; start = i; len = n }) j ≡ option_at s i → length s - j < length s - i
item_onward s i j kind n e = let w = option_onward s i (record { kind = kind; start = i; len = n }) j (sym e) in omega arith

-- the loop of `locate`, over an area of at most 40 bytes
module _ (s : List ℕ) (syn : Bool) where
  pub too_long : 40 < length s → refused ≡ finding s syn
  unfolding finding
  too_long h = simp (lt-ltb _ _ h)

  abbrev from : ℕ → Reading Fault Placed
  from i = items_of (option_at s) (length s) i

  pub record Seen (i k start len : ℕ) : Type 0 where
    pub short : length s ≤ 40
    pub at_most : i ≤ length s
    pub within : start + len ≤ length s
    pub few : k ≤ 2
    pub rest : after syn (kept k start len) (items_of (option_at s) (length s) i) ≡ chosen syn (options s)

  pub seen_start : length s ≤ 40 → Seen 0 0 0 0
  unfolding options
  seen_start h = record { short = h; at_most = omega arith; within = omega arith; few = omega arith; rest = after_start _ _ }

  module _ {i k start len : ℕ} (v : Seen i k start len) where
    whole : chosen syn (options s) ≡ finding s syn
    unfolding finding
    whole = simp (le-ltb _ _ v.short)

    module _ {o : Placed} {j : ℕ} (e : option_at s i ≡ item o j) where
      next : items_of (option_at s) (length s) i ≡ before o (items_of (option_at s) (length s) j)
      next = unroll_item (option_at s) (length s) (option_onward s) i o j e

      pub seen_onward : (i < j) × (j ≤ length s)
      seen_onward = option_onward s i o j e

      pub seen_other : (o.kind ≡ 0x45 → ⊥) → Seen j k start len
      seen_other h =
          let w = seen_onward in
          record {
            short = v.short;
            at_most = w.1;
            within = v.within;
            few = v.few;
            rest = sym (after_other syn o (kept k start len) (from j) h) ∙ (ap (after syn (kept k start len)) (sym next) ∙ v.rest);
          }

      pub seen_first : k ≡ 0 → o.kind ≡ 0x45 → Seen j 1 o.start o.len
      seen_first z h =
          let w = option_ends s i o j e in
          record {
            short = v.short;
            at_most = w.within;
            within = omega arith;
            few = omega arith;
            rest = sym (after_first syn o k o.start o.len start len (from j) z h refl refl) ∙ (ap (after syn (kept k start len)) (sym next) ∙ v.rest);
          }

      pub seen_again : (k ≡ 0 → ⊥) → o.kind ≡ 0x45 → Seen j 2 start len
      seen_again z h =
          let w = seen_onward in
          record {
            short = v.short;
            at_most = w.1;
            within = v.within;
            few = omega arith;
            rest = sym (after_again syn o k start len (from j) z h) ∙ (ap (after syn (kept k start len)) (sym next) ∙ v.rest);
          }

    pub seen_fault : {f : Fault} → option_at s i ≡ fault f → unreadable f ≡ finding s syn
    seen_fault {f} e = ap (after syn (kept k start len)) (sym (unroll_fault (option_at s) (length s) (option_onward s) i f e)) ∙ (v.rest ∙ whole)

    module _ (e : option_at s i ≡ end) where
      over : after syn (kept k start len) (readable []) ≡ finding s syn
      over = ap (after syn (kept k start len)) (sym (unroll_end (option_at s) (length s) (option_onward s) i e)) ∙ (v.rest ∙ whole)

      pub over_none : k ≡ 0 → missing ≡ finding s syn
      over_none z = sym (left_none syn k start len z) ∙ over

      pub over_one : (k ≡ 0 → ⊥) → (k ≡ 2 → ⊥) → found start len ≡ finding s syn
      over_one z t = sym (left_one syn k start len z t v.few) ∙ over

      pub over_two_syn : k ≡ 2 → syn ≡ true → missing ≡ finding s syn
      over_two_syn t y = ap (λ b. cond b missing (found start len)) (sym y) ∙ (sym (left_two syn k start len t) ∙ over)

      pub over_two_other : k ≡ 2 → syn ≡ false → found start len ≡ finding s syn
      over_two_other t y = ap (λ b. cond b missing (found start len)) (sym y) ∙ (sym (left_two syn k start len t) ∙ over)
