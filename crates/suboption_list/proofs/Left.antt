-- What is left of a list from a place on, for the questions that are asked of it place by place. Assumes nothing.
use Prim.Native.Nat.{ℕ, suc, ◌+◌, ◌-◌, ◌≤◌, ◌<◌}
use Rattle.std.specs.Prelude.{◌≡◌, List, [], ◌∷◌, true, false}
use Rattle.std.proofs.Common.{◌∙◌}
use Rattle.std.proofs.Math.Path.{ap}
use native.Mathlib.Omega.{arith}
use Rattle.std.proofs.Math.Decide.{dec_lt}
use Rattle.eno.specs.Suboption.{Suboption, global, tep}
use Rattle.suboption_list.specs.List.{most_items, item_of, sent_of, suboption_of, items_from, count_of, items_in}
use Rattle.suboption_list.proofs.Laws.{count_within, count_above}
use Rattle.suboption_list.specs.declared.SuboptionItem.{SuboptionItem}
use Rattle.suboption_list.specs.declared.SuboptionList.{SuboptionList}
use Rattle.suboption_list.specs.Left.{at}

module _ (l : SuboptionList) where
  -- what is left of a list from place i on
  unfoldable pub left : ℕ → List Suboption
  left i = items_from l.items (count_of l.count - i) i

  pub left_all : left 0 ≡ items_in l
  unfolding left items_in
  left_all = ap (λ n. items_from l.items n 0) (let e : count_of l.count - 0 ≡ count_of l.count = omega arith in e)

  counts : (i : ℕ) → i < most_items → i < l.count → i < count_of l.count
  counts i h k = elim (dec_lt most_items l.count) [
    | yes g ↦ let e = count_above l.count g in omega arith
    | no g ↦ let e = count_within l.count (omega arith) in omega arith
  ]

  pub left_item : (i : ℕ) → i < most_items → i < l.count → left i ≡ suboption_of (at l i) ∷ left (i + 1)
  unfolding left items_from
  left_item i h k =
      let c = counts i h k in
      let n : count_of l.count - i ≡ suc (count_of l.count - (i + 1)) = omega arith in
      let next : suc i ≡ i + 1 = omega arith in
      ap (λ m. items_from l.items m i) n ∙ ap (λ j. suboption_of (at l i) ∷ items_from l.items (count_of l.count - (i + 1)) j) next

  none_left : (i : ℕ) → count_of l.count ≤ i → left i ≡ []
  unfolding left items_from
  none_left i h = ap (λ m. items_from l.items m i) (let e : count_of l.count - i ≡ 0 = omega arith in e)

  pub left_end : (i : ℕ) → l.count ≤ i → left i ≡ []
  left_end i h = none_left i (elim (dec_lt most_items l.count) [
    | yes g ↦ let e = count_above l.count g in omega arith
    | no g ↦ let e = count_within l.count (omega arith) in omega arith
  ])

  pub left_most : (i : ℕ) → most_items ≤ i → left i ≡ []
  left_most i h = none_left i (elim (dec_lt most_items l.count) [
    | yes g ↦ let e = count_above l.count g in omega arith
    | no g ↦ let e = count_within l.count (omega arith) in omega arith
  ])

pub is_global : (x : SuboptionItem) → x.is_tep ≡ false → suboption_of x ≡ global x.byte
is_global x e = simp e

pub is_tep : (x : SuboptionItem) → x.is_tep ≡ true → suboption_of x ≡ tep (sent_of x)
is_tep x e = simp e

-- a TEP stands in the array as it is
pub as_sent_lem : (x : SuboptionItem) → x.is_tep ≡ true → x ≡ item_of (tep (sent_of x))
as_sent_lem x e = λ k. record { is_tep = e k; counted = x.counted; byte = x.byte; start = x.start; len = x.len }
