-- The tests of the judge and of an answer, on what the finder finds and on an option's bits and names. Assumes nothing.
use Rattle.std.specs.Prelude.{ℕ, ◌≤◌, ◌/◌, ◌%◌, ◌≡◌, refl, List, [], ◌∷◌, Bool, true, false, cond, not, ◌&&◌, ◌⊎◌, eqb, leb, length}
use Rattle.std.proofs.Common.{sym, ◌∙◌, ap, inl, inr, ⊎_elim, arith, eqb-true, leb-true, le-ltb}
use Rattle.std.proofs.lemmas.Bool.{false≢true}
use Rattle.std.proofs.Math.Decide.{ℕ_discrete}
use Rattle.eno.specs.Area.{Placed, Fault, Finding, refused, unreadable, missing, found, finding, part_of, choose, chosen, enos, options}
use Rattle.eno.specs.Walk.{Reading, readable, faulty, listed}
use Rattle.eno.specs.Suboption.{Sent, name, suboptions, aware_bit, global_byte}
use Rattle.eno.specs.Tep.{is_known}
use Rattle.eno.specs.Judge.{named, is_unreadable, is_missing, too_long, aware_of}
use Rattle.eno.specs.Laws.Teps.{In}
use Rattle.eno.specs.Laws.Tests.{is_refused, Found}

choose_not_refused : (l : List Placed) → is_refused (choose true l) ≡ false
unfolding choose
choose_not_refused [] = refl
choose_not_refused (x ∷ []) = refl
choose_not_refused (x ∷ y ∷ l) = refl

chosen_not_refused : (r : Reading Fault Placed) → is_refused (chosen true r) ≡ false
unfolding chosen
chosen_not_refused (faulty f) = refl
chosen_not_refused (readable l) = choose_not_refused (enos l)

-- only an area that is too long is refused
pub long_refused : (s : List ℕ) → too_long s ≡ is_refused (finding s true)
unfolding finding
long_refused s = go (too_long s)
  where
    go : (b : Bool) → b ≡ is_refused (cond b refused (chosen true (options s)))
    go true = refl
    go false = sym (chosen_not_refused (options s))

pub short_finds : (s : List ℕ) → length s ≤ 40 → finding s true ≡ refused → ⊥
short_finds s h e = false≢true (sym (le-ltb 40 (length s) h) ∙ (long_refused s ∙ ap is_refused e))

pub is_found : (s o : List ℕ) → o ≡ part_of s (finding s true) → (length o ≡ 0 → ⊥) → Found s
unfolding part_of
is_found s o e z = go (finding s true) refl
  where
    go : (f : Finding) → finding s true ≡ f → Found s
    go refused q = absurd (z (ap length (e ∙ ap (part_of s) q)))
    go (unreadable x) q = absurd (z (ap length (e ∙ ap (part_of s) q)))
    go missing q = absurd (z (ap length (e ∙ ap (part_of s) q)))
    go (found i n) q = record { not_long = long_refused s ∙ ap is_refused q; not_unreadable = ap is_unreadable q; not_missing = ap is_missing q }

-- bit a is 0 or 1
pub aware_or_not : (o : List ℕ) → eqb (aware_of o) 0 ≡ not (eqb (aware_of o) 1)
unfolding aware_of aware_bit
aware_or_not o = go (global_byte (listed (suboptions o)))
  where
    go : (x : ℕ) → eqb (x / 2 % 2) 0 ≡ not (eqb (x / 2 % 2) 1)
    go x = elim (ℕ_discrete (x / 2 % 2) 0) [
      | yes e ↦ simp e
      | no e ↦ let q : x / 2 % 2 ≡ 1 = omega arith in simp q
    ]

-- a TEP that the unit knows
pub known_range : (t : ℕ) → is_known t ≡ true → (0x21 ≤ t) × (t ≤ 0x24)
unfolding is_known
known_range t e = go (leb 0x21 t) refl e
  where
    go : (b : Bool) → leb 0x21 t ≡ b → b && leb t 0x24 ≡ true → (0x21 ≤ t) × (t ≤ 0x24)
    go true q e = (leb-true _ _ q, leb-true _ _ e)
    go false q e = absurd (false≢true e)

-- what is named t
pub named_there : (t : ℕ) (l : List Sent) (y : Sent) → In y (named t l) → In y l × (name y ≡ t)
unfolding named
named_there t [] y h = absurd h
named_there t (x ∷ l) y h = go (eqb (name x) t) refl h (named_there t l y)
  where
    go : (b : Bool) → eqb (name x) t ≡ b → In y (cond b (x ∷ named t l) (named t l)) → (In y (named t l) → In y l × (name y ≡ t)) → In y (x ∷ l) × (name y ≡ t)
    go true e h rest = ⊎_elim (λ q. (inl q, ap (λ (z : Sent). name z) q ∙ eqb-true _ _ e)) (λ j. let r = rest j in (inr r.0, r.1)) h
    go false e h rest = let r = rest h in (inr r.0, r.1)
