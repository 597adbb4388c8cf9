-- The loop that strikes: what it has kept, before what is left to look at. Assumes nothing.
use Prim.Native.Nat.{ℕ, ◌+◌, ◌≤◌, ◌<◌, ◌%◌}
use mathlib.Core.Path.{◌≡◌, refl, sym, ◌∙◌, ap, ap₂}
use mathlib.Core.List.{List, [], ◌∷◌, ◌++◌, map}
use mathlib.Core.Bool.{Bool, true, false, cond, false≢true}
use mathlib.Core.Option.{Option}
use native.Mathlib.Omega.{arith}
use lib.ListN.{length, set, replicate, length-append}
use Rattle.eno.specs.Suboption.{Suboption, tep, teps}
use Rattle.eno.specs.Judge.{Way}
use Rattle.suboption_list.specs.List.{most_items, filler, sent_of, suboption_of, items_in, array_of, list_as, list_with}
use Rattle.suboption_list.proofs.Laws.{append_nil, append_one, array_more}
use Rattle.suboption_list.specs.Left.{at}
use Rattle.suboption_list.proofs.Left.{left, left_all, left_item, as_sent_lem}
use Rattle.suboption_list.specs.declared.SuboptionItem.{SuboptionItem}
use Rattle.suboption_list.specs.declared.SuboptionList.{SuboptionList}
use Rattle.std.specs.Prelude as code
use Rattle.eno.specs.declared.Way as declared
use Rattle.eno.specs.Way.{way_as}
use Rattle.plain_striking.specs.Striking.{is_valid, struck}
use Rattle.plain_striking.specs.Stays.{stays}

module _ (valid : ℕ → Option Way) where
  -- whether an item stays
  pub stays_global : (x : SuboptionItem) → x.is_tep ≡ false → false ≡ stays valid x
  unfolding stays
  stays_global x e = simp e

  pub stays_by : (x : SuboptionItem) → x.is_tep ≡ true → (b : Bool) → b ≡ is_valid (valid (x.byte % 128)) → b ≡ stays valid x
  unfolding stays
  stays_by x e b h = h ∙ sym (simp e)

  abbrev pub kept : List Suboption → List Suboption
  kept l = map tep (struck valid (teps l))

  kept_more : (x : SuboptionItem) (r : List Suboption) → kept (suboption_of x ∷ r) ≡ cond (stays valid x) (tep (sent_of x) ∷ kept r) (kept r)
  unfolding stays struck teps
  kept_more x r = go x.is_tep refl
    where
      by : (b : Bool) → map tep (cond b (sent_of x ∷ struck valid (teps r)) (struck valid (teps r))) ≡ cond b (tep (sent_of x) ∷ kept r) (kept r)
      by true = refl
      by false = refl

      go : (b : Bool) → x.is_tep ≡ b → kept (suboption_of x ∷ r) ≡ cond (stays valid x) (tep (sent_of x) ∷ kept r) (kept r)
      go true e = simp e (by (is_valid (valid (x.byte % 128))))
      go false e = simp e

  kept_by : (x : SuboptionItem) (r m : List Suboption) → m ≡ suboption_of x ∷ r → (b : Bool) → b ≡ stays valid x → (c : Bool) → b ≡ c → kept m ≡ cond c (tep (sent_of x) ∷ kept r) (kept r)
  kept_by x r m q b is c e = ap kept q ∙ (kept_more x r ∙ ap (λ d. cond d (tep (sent_of x) ∷ kept r) (kept r)) (sym is ∙ e))

  stays_tep : (x : SuboptionItem) → stays valid x ≡ true → x.is_tep ≡ true
  stays_tep x h = go x.is_tep refl
    where
      go : (b : Bool) → x.is_tep ≡ b → x.is_tep ≡ true
      go true e = e
      go false e = absurd (false≢true (stays_global x e ∙ h))

  module _ (l : SuboptionList) where
    pub record Struck (array : List SuboptionItem) (count i : ℕ) : Type 0 where
      pub done : List Suboption
      pub array_is : array ≡ array_of done
      pub count_is : count ≡ length done
      pub behind : count ≤ i
      pub within : i ≤ most_items
      pub rest : done ++ kept (left l i) ≡ kept (items_in l)

    pub struck_start : (x : SuboptionItem) → x ≡ filler → Struck (replicate most_items x) 0 0
    unfolding array_of
    struck_start x e = rw e (record { done = []; array_is = refl; count_is = refl; behind = omega arith; within = omega arith; rest = ap kept (left_all l) })

    module _ {array : List SuboptionItem} {count i : ℕ} (k : Struck array count i) where
      module _ (low : i < most_items) (here : i < l.count) (b : Bool) (is : b ≡ stays valid (at l i)) where
        pub struck_stays : b ≡ true → (n : ℕ) → n ≡ count + 1 → (j : ℕ) → j ≡ i + 1 → Struck (set array count (at l i)) n j
        struck_stays e n en j ej =
            let x = at l i in
            let room : length k.done < most_items = omega (arith, k.behind, k.count_is) in
            let more = length-append k.done (tep (sent_of x) ∷ []) in
            record {
              done = k.done ++ tep (sent_of x) ∷ [];
              array_is =
                  ap₂ (λ a m. set a m x) k.array_is k.count_is
                  ∙ (ap (λ z. set (array_of k.done) (length k.done) z) (as_sent_lem x (stays_tep x (sym is ∙ e))) ∙ array_more k.done (tep (sent_of x)) room);
              count_is = omega (arith, k.count_is);
              behind = omega (arith, k.behind);
              within = omega arith;
              rest =
                  ap (λ m. (k.done ++ tep (sent_of x) ∷ []) ++ kept (left l m)) ej
                  ∙ (append_one k.done (tep (sent_of x)) (kept (left l (i + 1)))
                  ∙ (ap (λ m. k.done ++ m) (sym (kept_by x (left l (i + 1)) (left l i) (left_item l i low here) b is true e)) ∙ k.rest));
            }

        pub struck_goes : b ≡ false → (j : ℕ) → j ≡ i + 1 → Struck array count j
        struck_goes e j ej =
            let x = at l i in
            record {
              done = k.done;
              array_is = k.array_is;
              count_is = k.count_is;
              behind = omega (arith, k.behind);
              within = omega arith;
              rest = ap (λ m. k.done ++ kept (left l m)) ej ∙ (ap (λ m. k.done ++ m) (sym (kept_by x (left l (i + 1)) (left l i) (left_item l i low here) b is false e)) ∙ k.rest);
            }

      pub struck_end : left l i ≡ [] → (list_as count array ≡ list_with (kept (items_in l))) × (count ≤ 38)
      unfolding list_with struck teps
      struck_end e =
          (ap₂ list_as k.count_is k.array_is ∙ ap list_with (sym (append_nil k.done) ∙ (ap (λ m. k.done ++ kept m) (sym e) ∙ k.rest)), omega (arith, k.behind, k.within))

-- whether a TEP is valid, by the code's word for it
pub valid_some : (v : code.Option declared.Way) → code.is_some v ≡ is_valid (way_as v)
valid_some code.None = refl
valid_some (code.Some w) = refl
