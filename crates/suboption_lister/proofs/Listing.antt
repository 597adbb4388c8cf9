-- The walk that lists: what it has put into the array, before what is still to come. Assumes nothing.
use Prim.Native.Nat.{ℕ, ◌+◌, ◌≤◌, ◌<◌}
use mathlib.Core.Path.{◌≡◌, refl, sym, ◌∙◌, ap, ap₂}
use mathlib.Core.List.{List, [], ◌∷◌, ◌++◌}
use native.Mathlib.Omega.{arith}
use lib.ListN.{length, set, replicate, length-append}
use Rattle.eno.specs.Walk.{end, fault, item, Reading, readable, faulty, before, items_of}
use Rattle.eno.specs.Suboption.{Sent, Suboption, tep, suboption_at, suboptions}
use Rattle.eno.proofs.Laws.Walk.{unroll_end, unroll_fault, unroll_item}
use Rattle.eno.proofs.Laws.Suboption.{suboption_onward}
use Rattle.suboption.specs.Within.{tep_ends}
use Rattle.suboption_list.specs.List.{most_items, item_of, filler, array_of, list_as, list_with, broken_list, listed_of, list_of}
use Rattle.suboption_list.proofs.Laws.{append_nil, append_one, array_more, list_within}
use Rattle.suboption_list.specs.declared.SuboptionItem.{SuboptionItem}

-- suboptions that were met before the rest
abbrev after : List Suboption → Reading (Unit {0}) Suboption → Reading (Unit {0}) Suboption
after done (readable l) = readable (done ++ l)
after done (faulty f) = faulty f

after_none : (r : Reading (Unit {0}) Suboption) → after [] r ≡ r
after_none (readable l) = refl
after_none (faulty f) = refl

after_one : (done : List Suboption) (x : Suboption) (r : Reading (Unit {0}) Suboption) → after (done ++ x ∷ []) r ≡ after done (before x r)
after_one done x (readable l) = ap readable (append_one done x l)
after_one done x (faulty f) = refl

module _ (o : List ℕ) where
  pub record Listing (array : List SuboptionItem) (count i : ℕ) : Type 0 where
    pub done : List Suboption
    pub short : length o ≤ 40
    pub array_is : array ≡ array_of done
    pub count_is : count ≡ length done
    pub behind : count + 2 ≤ i
    pub rest : after done (items_of (suboption_at o) (length o) i) ≡ suboptions o

  pub listing_start : (x : SuboptionItem) → x ≡ filler → length o ≤ 40 → Listing (replicate most_items x) 0 2
  unfolding array_of suboptions
  listing_start x e h =
      rw e (record { done = []; short = h; array_is = refl; count_is = refl; behind = omega arith; rest = after_none (items_of (suboption_at o) (length o) 2) })

  module _ {array : List SuboptionItem} {count i : ℕ} (k : Listing array count i) where
    module _ {x : Suboption} {j : ℕ} (e : suboption_at o i ≡ item x j) where
      pub listing_onward : (i < j) × (j ≤ length o)
      listing_onward = suboption_onward o i x j e

      -- there is room for it
      pub listing_room : count < most_items
      listing_room =
          let w = listing_onward in
          omega (arith, k.short, k.behind)

      pub listing_more : (y : SuboptionItem) → y ≡ item_of x → (n : ℕ) → n ≡ count + 1 → Listing (set array count y) n j
      listing_more y q n p =
          let w = listing_onward in
          let room : length k.done < most_items = omega (arith, listing_room, k.count_is) in
          let l = length-append k.done (x ∷ []) in
          record {
            done = k.done ++ x ∷ [];
            short = k.short;
            array_is =
                ap₂ (λ a m. set a m y) k.array_is k.count_is
                ∙ (ap (λ z. set (array_of k.done) (length k.done) z) q ∙ array_more k.done x room);
            count_is = omega (arith, k.count_is);
            behind = omega (arith, k.behind);
            rest =
                after_one k.done x (items_of (suboption_at o) (length o) j)
                ∙ (ap (after k.done) (sym (unroll_item (suboption_at o) (length o) (suboption_onward o) i x j e)) ∙ k.rest);
          }

    -- the place and the length of a TEP's data are single bytes
    pub listing_fits : {x : Sent} {j : ℕ} → suboption_at o i ≡ item (tep x) j → x.start + x.len ≤ 40
    listing_fits {x} {j} e =
        let w = suboption_onward o i (tep x) j e in
        let q = tep_ends o i x j e in
        omega (arith, k.short)

    pub listing_ill_formed : suboption_at o i ≡ fault tt → broken_list ≡ list_of o
    unfolding listed_of
    listing_ill_formed e =
        ap listed_of (ap (after k.done) (sym (unroll_fault (suboption_at o) (length o) (suboption_onward o) i tt e)) ∙ k.rest) ∙ sym (list_within o k.short)

    pub listing_end : suboption_at o i ≡ end → list_as count array ≡ list_of o
    unfolding listed_of list_with
    listing_end e =
        ap₂ list_as k.count_is k.array_is
        ∙ (ap list_with (sym (append_nil k.done))
        ∙ (ap listed_of (ap (after k.done) (sym (unroll_end (suboption_at o) (length o) (suboption_onward o) i e)) ∙ k.rest) ∙ sym (list_within o k.short)))
