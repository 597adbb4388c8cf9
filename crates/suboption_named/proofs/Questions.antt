-- The TEPs of one name, by what is left of a list from a place on. Assumes nothing.
use Prim.Native.Nat.{ℕ, suc, ◌+◌, ◌-◌, ◌≤◌, ◌%◌}
use mathlib.Core.Path.{◌≡◌, refl, sym, ◌∙◌, ap}
use mathlib.Core.List.{List, [], ◌∷◌}
use mathlib.Core.Bool.{Bool, true, false, cond, false≢true}
use native.Mathlib.Omega.{arith}
use lib.Dec.{eqb}
use lib.ListN.{length}
use Rattle.eno.specs.Suboption.{Suboption, teps}
use Rattle.eno.specs.Judge.{named}
use Rattle.suboption_list.specs.List.{filler, sent_of, suboption_of, is_named, first_item}
use Rattle.suboption_list.proofs.Left.{as_sent_lem}
use Rattle.suboption_list.specs.declared.SuboptionItem.{SuboptionItem}

pub at_most_one : (n : ℕ) (b : Bool) → n ≡ cond b 1 0 → n ≤ 1
at_most_one n true e = omega arith
at_most_one n false e = omega arith

-- the TEPs named t
module _ (t : ℕ) (x : SuboptionItem) where
  pub named_global : x.is_tep ≡ false → false ≡ is_named x t
  unfolding is_named
  named_global e = simp e

  pub named_tep : x.is_tep ≡ true → eqb (x.byte % 128) t ≡ is_named x t
  unfolding is_named
  named_tep e = simp e

  named_more : (r : List Suboption) → named t (teps (suboption_of x ∷ r)) ≡ cond (is_named x t) (sent_of x ∷ named t (teps r)) (named t (teps r))
  unfolding named teps is_named
  named_more r = go x.is_tep refl
    where
      go : (b : Bool) → x.is_tep ≡ b → named t (teps (suboption_of x ∷ r)) ≡ cond (is_named x t) (sent_of x ∷ named t (teps r)) (named t (teps r))
      go true e = simp e
      go false e = simp e

  module _ (r m : List Suboption) (q : m ≡ suboption_of x ∷ r) (b : Bool) (is : b ≡ is_named x t) where
    named_by : named t (teps m) ≡ cond b (sent_of x ∷ named t (teps r)) (named t (teps r))
    named_by = ap (λ l. named t (teps l)) q ∙ (named_more r ∙ ap (λ c. cond c (sent_of x ∷ named t (teps r)) (named t (teps r))) (sym is))

    pub times_next : (n more : ℕ) → more ≡ cond b 1 0 → (whole : ℕ) → n + length (named t (teps m)) ≡ whole → n + more + length (named t (teps r)) ≡ whole
    times_next n more e whole h = go b refl
      where
        go : (c : Bool) → b ≡ c → n + more + length (named t (teps r)) ≡ whole
        go true p =
            let one : more ≡ 1 = e ∙ ap (λ d. cond d 1 0) p in
            let l : length (named t (teps m)) ≡ suc (length (named t (teps r))) = ap length (named_by ∙ ap (λ d. cond d (sent_of x ∷ named t (teps r)) (named t (teps r))) p) in
            omega arith
        go false p =
            let zero_more : more ≡ 0 = e ∙ ap (λ d. cond d 1 0) p in
            let l : length (named t (teps m)) ≡ length (named t (teps r)) = ap length (named_by ∙ ap (λ d. cond d (sent_of x ∷ named t (teps r)) (named t (teps r))) p) in
            omega arith

    pub first_here : b ≡ true → x ≡ first_item (named t (teps m))
    unfolding first_item
    first_here p = as_sent_lem x (go x.is_tep refl (sym is ∙ p)) ∙ sym (ap first_item (named_by ∙ ap (λ d. cond d (sent_of x ∷ named t (teps r)) (named t (teps r))) p))
      where
        go : (c : Bool) → x.is_tep ≡ c → is_named x t ≡ true → x.is_tep ≡ true
        go true e n = e
        go false e n = absurd (false≢true (named_global e ∙ n))

    pub first_next : b ≡ false → first_item (named t (teps r)) ≡ first_item (named t (teps m))
    first_next p = sym (ap first_item (named_by ∙ ap (λ d. cond d (sent_of x ∷ named t (teps r)) (named t (teps r))) p))

pub times_end : (t : ℕ) (m : List Suboption) → m ≡ [] → (n whole : ℕ) → n + length (named t (teps m)) ≡ whole → n ≡ whole
unfolding named teps
times_end t m q n whole h =
    let l : length (named t (teps m)) ≡ 0 = ap (λ k. length (named t (teps k))) q in
    omega arith

pub first_none : (t : ℕ) (m : List Suboption) → m ≡ [] → filler ≡ first_item (named t (teps m))
unfolding named teps first_item
first_none t m q = rw q refl
