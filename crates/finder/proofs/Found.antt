-- The part that `find_option` hands back and the word that `find_status` says, from what `locate` promises.
use Prim.Native.Nat.{ℕ, ◌+◌, ◌-◌, ◌≤◌}
use mathlib.Core.Path.{◌≡◌, refl, sym, ◌∙◌, ap, subst}
use mathlib.Core.List.{List, []}
use mathlib.Core.Bool.{Bool}
use native.Mathlib.Nat.{add-sub_cancel_left}
use native.Mathlib.Omega.{arith}
use lib.ListN.{length, take, drop}
use Rattle.wire.specs.Bytes.{part}
use Rattle.eno.specs.Area.{part_of, finding, status}
use Rattle.area_walk.specs.Answers.{finding_of, Within, Locates}
use Rattle.finder.specs.Answers.{start_of}
use Rattle.area_walk.specs.declared.Located.{Located}
use Rattle.area_walk.specs.declared.Located.TheVariants as located

module _ (s : List ℕ) (syn : Bool) (r : Located) (l : Locates s syn r) where
  pub found_within : (i k : ℕ) → r ≡ located.Found i k → i + k ≤ length s
  found_within i k e = subst (λ x. Within (length s) (finding_of x)) e l.within

  pub found_bytes : (i k : ℕ) → r ≡ located.Found i k → take (i + k - i) (drop i s) ≡ part_of s (finding s syn)
  unfolding part_of part
  found_bytes i k e =
      ap (λ n. take n (drop i s)) (add-sub_cancel_left i k)
      ∙ (ap (λ x. part_of s (finding_of x)) (sym e) ∙ ap (part_of s) l.right)

  pub found_start : (i k : ℕ) → r ≡ located.Found i k → i ≡ start_of (finding s syn)
  found_start i k e = ap (λ x. start_of (finding_of x)) (sym e) ∙ ap start_of l.right

  -- the word for a known answer of `locate`
  pub told : (x : Located) → r ≡ x → status (finding_of x) ≡ status (finding s syn)
  told x e = ap (λ y. status (finding_of y)) (sym e) ∙ ap status l.right

-- where no option was found
pub no_bytes : (s : List ℕ) (syn : Bool) (r : Located) → Locates s syn r
    → ((i k : ℕ) → r ≡ located.Found i k → ⊥) → [] ≡ part_of s (finding s syn)
unfolding part_of
no_bytes s syn located.Refused l h = ap (part_of s) l.right
no_bytes s syn (located.Unreadable i k) l h = ap (part_of s) l.right
no_bytes s syn located.Missing l h = ap (part_of s) l.right
no_bytes s syn (located.Found i k) l h = absurd (h i k refl)

pub no_start : (s : List ℕ) (syn : Bool) (r : Located) → Locates s syn r
    → ((i k : ℕ) → r ≡ located.Found i k → ⊥) → 0 ≡ start_of (finding s syn)
no_start s syn located.Refused l h = ap start_of l.right
no_start s syn (located.Unreadable i k) l h = ap start_of l.right
no_start s syn located.Missing l h = ap start_of l.right
no_start s syn (located.Found i k) l h = absurd (h i k refl)
