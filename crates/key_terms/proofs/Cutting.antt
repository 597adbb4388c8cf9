-- The transcript cut into its options, and the call's own tests. Assumes nothing.
use Prim.Native.Nat.{ℕ, ◌-◌, ◌%◌, ◌≤◌, ◌<◌}
use mathlib.Core.Path.{◌≡◌, refl, sym, ◌∙◌, ap, ap₂}
use mathlib.Core.List.{List, [], ◌∷◌}
use mathlib.Core.Bool.{Bool, true, false, cond, not, ◌&&◌}
use mathlib.Core.Option.{none}
use native.Mathlib.Omega.{arith}
use borrow.Author.Tests.{lt-ltb, le-ltb, eq-eqb, ne_eqb, not-false}
use Rattle.eno.proofs.Laws.Tests.{known_range}
use lib.Dec.{leb, eqb}
use lib.ListN.{length, get_or, take, drop, length-drop}
use lib.Seq.{take_all}
use Rattle.wire.specs.Bytes.{part}
use Rattle.refusals.specs.Rows.{refusal}
use Rattle.eno.specs.Tep.{is_known, tep_of}
use Rattle.eno.specs.declared.Tep.{Tep}
use Rattle.key_terms.specs.Terms.{option_of_a, option_of_b, is_whole, resumption_data, terms_by, terms}
use Rattle.key_terms.specs.Calls.{refused, no_terms, Outcome, zeros, given, unless, unfit, resumption_terms}
use Rattle.key_terms.proofs.Wholes.{whole_short}
use Rattle.key_terms.proofs.Giving.{own_none, peer_none}

-- a known TEP's range
pub known_low : (t : ℕ) → is_known t ≡ true → 0x21 ≤ t
known_low t k = (known_range t k).0

pub known_high : (t : ℕ) → is_known t ≡ true → t ≤ 0x24
known_high t k = (known_range t k).1

-- no second byte: the first option is empty
a_short : (s : List ℕ) → length s < 2 → false ≡ is_whole (option_of_a s)
unfolding option_of_a part
a_short [] h = whole_short [] (omega arith)
a_short (x ∷ []) h = whole_short [] (omega arith)
a_short (x ∷ y ∷ l) h = absurd (omega arith)

-- fewer bytes than the length byte says
a_over : (s : List ℕ) → 2 ≤ length s → length s < get_or s 1 0 → false ≡ is_whole (option_of_a s)
unfolding option_of_a part is_whole
a_over s l h =
    let e : take (get_or s 1 0) s ≡ s = take_all (get_or s 1 0) s (omega arith) in
    let n : get_or s 1 0 ≡ length s → ⊥ = λ q. omega arith in
    sym (ap (λ o. eqb (get_or o 0 0) 0x45 && eqb (get_or o 1 0) (length o) && leb (length o) 40) e ∙ go (eqb (get_or s 0 0) 0x45) (eqb (get_or s 1 0) (length s)) (leb (length s) 40) (ne_eqb _ _ n))
  where
    go : (a b c : Bool) → b ≡ false → a && b && c ≡ false
    go true b c e = ap (λ x. x && c) e
    go false b c e = refl

a_none : (t : ℕ) (s : List ℕ) → false ≡ is_whole (option_of_a s) → none ≡ resumption_data t (option_of_a s)
unfolding resumption_data
a_none t s e = rw (sym e)

module _ (role tep : ℕ) (identifier s : List ℕ) where
  none_by_a : none ≡ resumption_data (tep % 128) (option_of_a s) → none ≡ terms role (tep % 128) identifier s
  unfolding terms
  none_by_a e = go (eqb role 0)
    where
      go : (b : Bool) → none ≡ cond b (terms_by (tep % 128) identifier (option_of_a s) (option_of_b s)) (terms_by (tep % 128) identifier (option_of_b s) (option_of_a s))
      go true = own_none (tep % 128) identifier (option_of_a s) (option_of_b s) e
      go false = peer_none (tep % 128) identifier (option_of_b s) (option_of_a s) e

  pub unfit_role : 1 < role → (x : Outcome) → x ≡ zeros (refused 3) → x ≡ resumption_terms role tep identifier s
  unfolding resumption_terms unfit unless refusal
  unfit_role h x q = q ∙ sym (rw (lt-ltb _ _ h))

  module _ (low : role ≤ 1) where
    pub unfit_tep : is_known (tep % 128) ≡ false → (x : Outcome) → x ≡ zeros (refused 3) → x ≡ resumption_terms role tep identifier s
    unfolding resumption_terms unfit unless refusal
    unfit_tep k x q = q ∙ sym (rw (le-ltb _ _ low, k))

    module _ (known : is_known (tep % 128) ≡ true) where
      pub unfit_identifier : (length identifier ≡ 18 → ⊥) → (x : Outcome) → x ≡ zeros (refused 3) → x ≡ resumption_terms role tep identifier s
      unfolding resumption_terms unfit unless refusal
      unfit_identifier h x q = q ∙ sym (rw (le-ltb _ _ low, known, ne_eqb _ _ h))

      module _ (eighteen : length identifier ≡ 18) where
        fit : given (terms role (tep % 128) identifier s) ≡ resumption_terms role tep identifier s
        unfolding resumption_terms unfit unless refusal
        fit = sym (rw (le-ltb _ _ low, known, eq-eqb _ _ eighteen))

        gives_no : false ≡ is_whole (option_of_a s) → (x : Outcome) → x ≡ zeros no_terms → x ≡ resumption_terms role tep identifier s
        unfolding given
        gives_no e x q = q ∙ (ap given (none_by_a (a_none (tep % 128) s e)) ∙ fit)

        pub no_second_byte : length s < 2 → (x : Outcome) → x ≡ zeros no_terms → x ≡ resumption_terms role tep identifier s
        no_second_byte h = gives_no (a_short s h)

        pub cut_short : 2 ≤ length s → (n : ℕ) → n ≡ get_or s 1 0 → length s < n → (x : Outcome) → x ≡ zeros no_terms → x ≡ resumption_terms role tep identifier s
        cut_short l n e h = gives_no (a_over s l (omega arith))

        -- the two options
        module _ (n : ℕ) (e : n ≡ get_or s 1 0) (a b : List ℕ) (ea : a ≡ take n s) (eb : b ≡ take (length s - n) (drop n s)) where
          is_a : a ≡ option_of_a s
          unfolding option_of_a part
          is_a = ea ∙ ap (λ k. take k s) e

          is_b : b ≡ option_of_b s
          unfolding option_of_b
          is_b = eb ∙ (take_all (length s - n) (drop n s) (rw (length-drop n s) (omega arith)) ∙ ap (λ k. drop k s) e)

          pub at_a : role ≡ 0 → (x : Outcome) → x ≡ given (terms_by (tep % 128) identifier a b) → x ≡ resumption_terms role tep identifier s
          unfolding terms
          at_a z x q = q ∙ (ap₂ (λ o p. given (terms_by (tep % 128) identifier o p)) is_a is_b ∙ (sym (rw (eq-eqb _ _ z)) ∙ fit))

          pub at_b : (role ≡ 0 → ⊥) → (x : Outcome) → x ≡ given (terms_by (tep % 128) identifier b a) → x ≡ resumption_terms role tep identifier s
          unfolding terms
          at_b z x q = q ∙ (ap₂ (λ o p. given (terms_by (tep % 128) identifier o p)) is_b is_a ∙ (sym (rw (ne_eqb _ _ z)) ∙ fit))
