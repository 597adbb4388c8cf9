-- The resumption data of a TEP by the summary of its option. Assumes nothing.
use Prim.Native.Nat.{ℕ, ◌-◌, ◌≤◌}
use mathlib.Core.Path.{◌≡◌, refl, sym, ◌∙◌, ap}
use mathlib.Core.List.{List, [], ◌∷◌}
use mathlib.Core.Bool.{Bool, true, false, cond}
use mathlib.Core.Option.{Option, none, some}
use native.Mathlib.Omega.{arith}
use native.Mathlib.Decide.{dec_lt}
use borrow.Author.Tests.{lt-ltb, le-ltb, le-leb, lt-leb, eq-eqb, ne_eqb}
use lib.Dec.{eqb}
use lib.ListN.{length, get_or}
use Rattle.eno.specs.Suboption.{Sent, suboptions, is_ill_formed}
use Rattle.eno.specs.Judge.{is_fresh, is_bad, is_resumption, named, once, teps_of, role_of, aware_of}
use Rattle.suboptions.specs.Summary.{never, as_sent, again, entry_from, entries_of, summary_of}
use Rattle.suboptions.specs.Laws.{saying}
use Rattle.suboptions.proofs.Laws.{summary_says, entry_of_lem, entry_times}
use Rattle.suboptions.specs.declared.Entry.{Entry}
use Rattle.suboptions.specs.declared.Summary.{Summary}
use Rattle.key_terms.specs.Terms.{Data, is_whole, data_of, resumption_data}
use Rattle.key_terms.proofs.Wholes.{whole_most}

abbrev at : ℕ → ℕ → Data
at start len = record { start = start; len = len }

-- the data by an entry
abbrev data_in : Entry → Option Data
data_in e = cond (eqb e.times 1) (cond (is_fresh (as_sent e)) none (cond (is_bad (as_sent e)) none (some (at e.start e.len)))) none

once_data : (x : Sent) (b : Bool) → b ≡ is_fresh x → cond (is_resumption x) (some (at x.start x.len)) none ≡ cond b none (cond (is_bad x) none (some (at x.start x.len)))
unfolding is_resumption is_bad
once_data x true e = rw (sym e)
once_data x false e = rw (sym e) (elim (dec_lt x.len 18) [
  | yes h ↦ simp (lt-ltb x.len 18 h, lt-leb 18 x.len h)
  | no h ↦ let g : 18 ≤ x.len = omega arith in simp (le-ltb x.len 18 g, le-leb 18 x.len g)
])

by_entry : (l : List Sent) → data_of (once l) ≡ data_in (entry_from never l)
unfolding data_of once entry_from again is_fresh is_bad
by_entry [] = refl
by_entry (x ∷ []) = once_data x (is_fresh x) refl
by_entry (x ∷ y ∷ l) =
    let n : (entry_from never (x ∷ y ∷ l)).times ≡ length (x ∷ y ∷ l) = entry_times (x ∷ y ∷ l) in
    let other : (entry_from never (x ∷ y ∷ l)).times ≡ 1 → ⊥ = λ e. omega arith in
    let e : Entry = entry_from never (x ∷ y ∷ l) in
    sym (ap (λ b. cond b (cond (is_fresh (as_sent e)) none (cond (is_bad (as_sent e)) none (some (at e.start e.len)))) none) (ne_eqb _ _ other))

module _ (t : ℕ) (o : List ℕ) (w : Bool) (whole : w ≡ is_whole o) where
  pub data_not_whole : w ≡ false → none ≡ resumption_data t o
  unfolding resumption_data
  data_not_whole e = rw (sym whole ∙ e)

  module _ (yes : w ≡ true) (s : Summary) (is : s ≡ summary_of o) where
    says : s ≡ saying (is_ill_formed (suboptions o)) (role_of o) (eqb (aware_of o) 1) (entries_of (teps_of o))
    says = is ∙ summary_says o (let m : length o ≤ 40 = whole_most o (sym whole ∙ yes) in omega arith)

    pub data_ill_formed : s.ill_formed ≡ true → none ≡ resumption_data t o
    unfolding resumption_data
    data_ill_formed e = rw (sym whole ∙ yes, sym (ap (λ (x : Summary). x.ill_formed) says) ∙ e)

    module _ (well : s.ill_formed ≡ false) (low : 0x21 ≤ t) (high : t ≤ 0x24) (k : ℕ) (ek : k ≡ t - 0x21) (e : Entry) (ee : e ≡ get_or s.teps k never) where
      entry : e ≡ entry_from never (named t (teps_of o))
      entry = ee ∙ (ap (λ (x : Summary). get_or x.teps k never) says ∙ (ap (λ n. get_or (entries_of (teps_of o)) n never) ek ∙ entry_of_lem (teps_of o) t low high))

      data_is : data_in e ≡ resumption_data t o
      unfolding resumption_data
      data_is =
          ap (λ (x : Entry). data_in x) entry ∙ (sym (by_entry (named t (teps_of o)))
          ∙ sym (rw (sym whole ∙ yes, sym (ap (λ (x : Summary). x.ill_formed) says) ∙ well)))

      pub data_not_once : (e.times ≡ 1 → ⊥) → none ≡ resumption_data t o
      data_not_once h = sym (rw (ne_eqb _ _ h)) ∙ data_is

      module _ (one : e.times ≡ 1) (b : Bool) (eb : b ≡ is_fresh (as_sent e)) where
        pub data_fresh : b ≡ true → none ≡ resumption_data t o
        data_fresh f = sym (rw (eq-eqb _ _ one, sym eb ∙ f)) ∙ data_is

        module _ (f : b ≡ false) (c : Bool) (ec : c ≡ is_bad (as_sent e)) where
          pub data_bad : c ≡ true → none ≡ resumption_data t o
          data_bad g = sym (rw (eq-eqb _ _ one, sym eb ∙ f, sym ec ∙ g)) ∙ data_is

          pub data_there : c ≡ false → (i n : ℕ) → i ≡ e.start → n ≡ e.len → some (record { start = i; len = n }) ≡ resumption_data t o
          data_there g i n ei en = (λ j. some (at (ei j) (en j))) ∙ (sym (rw (eq-eqb _ _ one, sym eb ∙ f, sym ec ∙ g)) ∙ data_is)
