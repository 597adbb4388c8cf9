-- `place_of` meets its contract: the loop's invariant is that the search from here finds the same place.
use Rattle.std.proofs.Common.{◌≡◌, ℕ, ◌≤◌, List, Bool, true, false, leb, length, max, refl, sym, ◌∙◌, arith}
use borrow.Author.Tests.{leb-true, leb-false}
use Rattle.text_places.specs.Word.{place_of}
use Rattle.text_places.specs.WordLaws.{place_end, place_here, place_later}
use Rattle.text_places.proofs.place_of.Goals as goal

-- the loop ends with the text, or does not begin past it
place_past : (b : ℕ) (s : List ℕ) (at i r : ℕ) → (at ≤ length s → i ≤ length s) → length s ≤ i → r ≡ max at (length s) → place_of b s i ≡ place_of b s at → r ≡ place_of b s at
place_past b s at i r f h e p = go (leb at (length s)) refl
  where
    go : (t : Bool) → leb at (length s) ≡ t → r ≡ place_of b s at
    go true q =
        let k = f (leb-true at (length s) q) in
        let j : r ≡ i = let m = leb-true at (length s) q in omega arith in
        j ∙ (place_end b s i h ∙ p)
    go false q =
        let m = leb-false at (length s) q in
        let j : r ≡ at = omega arith in
        j ∙ place_end b s at (omega arith)

pub returns-then-s-i : goal.returns-then-s-i
returns-then-s-i c = (place_here _ _ _ (omega arith) (omega arith) ∙ c.loop-i.invariant, omega arith)

pub loop-i-preserved : goal.loop-i-preserved
loop-i-preserved c = sym (place_later _ _ _ (omega arith) (omega arith)) ∙ c.loop-i.invariant

pub returns : goal.returns
returns c = (place_past _ _ _ _ _ c.loop-i.auto.i-end (omega arith) c.max.ensures c.loop-i.invariant, omega arith)
