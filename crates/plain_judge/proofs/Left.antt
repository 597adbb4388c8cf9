-- What is left of a list, and the last of it. Assumes nothing.
use Prim.Native.Nat.{ℕ, suc, ◌-◌, ◌≤◌}
use mathlib.Core.Path.{◌≡◌, refl, sym, ◌∙◌, ap}
use mathlib.Core.List.{List, [], ◌∷◌, ◌++◌, map}
use mathlib.Core.Option.{Option, none, some}
use native.Mathlib.Omega.{arith}
use borrow.Author.Tests.{ne_eqb}
use lib.ListN.{length, get_or, replicate}
use Rattle.eno.specs.Suboption.{Sent, tep, teps}
use Rattle.eno.specs.Judge.{Way, or_else}
use Rattle.suboption_list.specs.List.{most_items, item_of, filler, sent_of, count_of, items_in, array_of, list_with, list_of, last_item}
use Rattle.suboption_list.proofs.Laws.{count_within}
use Rattle.suboption_list.specs.declared.SuboptionItem.{SuboptionItem}
use Rattle.suboption_list.specs.declared.SuboptionList.{SuboptionList}
use Rattle.plain_striking.specs.Striking.{struck, last_of}

-- what is left of the list of an option
pub struck_of : (valid : ℕ → Option Way) (o : List ℕ) (l : SuboptionList) → l ≡ list_of o → list_with (map tep (struck valid (teps (items_in l)))) ≡ list_with (map tep (struck valid (teps (items_in (list_of o)))))
struck_of valid o l e = ap (λ x. list_with (map tep (struck valid (teps (items_in x))))) e

-- the last of a list that has some
last_from : Sent → List Sent → Sent
last_from x [] = x
last_from x (y ∷ l) = last_from y l

last_from_lem : (x : Sent) (l : List Sent) → last_of (x ∷ l) ≡ some (last_from x l)
unfolding last_of last_from
last_from_lem x [] = refl
last_from_lem x (y ∷ l) = ap (λ o. or_else o (some x)) (last_from_lem y l)

last_there : (x : Sent) (l : List Sent) (rest : List SuboptionItem) → get_or (map item_of (map tep (x ∷ l)) ++ rest) (length (map tep l)) filler ≡ item_of (tep (last_from x l))
unfolding last_from
last_there x [] rest = refl
last_there x (y ∷ l) rest = last_there y l rest

-- the last item of a list of TEPs is the last TEP
last_item_is : (y : Sent) (s : List Sent) (l : SuboptionList) → l ≡ list_with (map tep (y ∷ s)) → l.count ≡ suc (length (map tep s)) → l.count ≤ most_items
    → last_item l ≡ item_of (tep (last_from y s))
unfolding last_item list_with array_of
last_item_is y s l e n h =
    let z : l.count ≡ 0 → ⊥ = λ q. omega arith in
    let c = count_within l.count h in
    let k : count_of l.count - 1 ≡ length (map tep s) = omega arith in
    simp (ne_eqb _ _ z)
    (ap (λ (m : SuboptionList). get_or m.items (count_of l.count - 1) filler) e
    ∙ (ap (λ m. get_or (map item_of (map tep (y ∷ s)) ++ replicate (most_items - length (map tep (y ∷ s))) filler) m filler) k
    ∙ last_there y s (replicate (most_items - length (map tep (y ∷ s))) filler)))

pub last_is : (s : List Sent) (l : SuboptionList) → l ≡ list_with (map tep s) → l.count ≤ most_items → (l.count ≡ 0 → ⊥) → (x : SuboptionItem) → x ≡ last_item l
    → last_of s ≡ some (sent_of x)
unfolding list_with
last_is [] l e h z x q = absurd (z (ap (λ (m : SuboptionList). m.count) e))
last_is (y ∷ s) l e h z x q =
    last_from_lem y s ∙ ap (λ w. some (sent_of w)) (sym (q ∙ last_item_is y s l e (ap (λ (m : SuboptionList). m.count) e) h))

pub none_left : (s : List Sent) (l : SuboptionList) → l ≡ list_with (map tep s) → l.count ≡ 0 → last_of s ≡ none
unfolding list_with last_of
none_left [] l e h = refl
none_left (y ∷ s) l e h = let n : l.count ≡ suc (length (map tep s)) = ap (λ (m : SuboptionList). m.count) e in absurd (omega arith)
