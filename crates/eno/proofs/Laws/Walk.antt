-- How a walk unrolls, and what holds of all that it lists, whatever the items are.
use Prim.Native.Nat.{ℕ, zero, suc, ◌+◌, ◌-◌, ◌≤◌, ◌<◌}
use Rattle.std.specs.Prelude.{◌≡◌, [], ◌∷◌, ◌++◌}
use Rattle.std.proofs.Math.Path.{refl}
use Rattle.std.proofs.Common.{◌∙◌, ap, arith}
use Rattle.eno.specs.Walk.{Piece, end, fault, item, Reading, readable, faulty, before, listed, items, items_of}
use Rattle.eno.specs.Laws.Walk.{Every}

module _ {F X : Type 0} (at : ℕ → Piece F X) (n : ℕ) where
  -- each item ends behind its start and within the n bytes
  abbrev pub Onward : Type 0
  Onward = (i : ℕ) (x : X) (j : ℕ) → at i ≡ item x j → (i < j) × (j ≤ n)

  module _ (onward : Onward) where
    -- enough steps are enough
    same : (f g i : ℕ) → n - i < f → n - i < g → items at f i ≡ items at g i
    unfolding items
    same zero g i p q = absurd (omega arith)
    same (suc f) zero i p q = absurd (omega arith)
    same (suc f) (suc g) i p q = go (λ j. same f g j) (at i) refl
      where
        go : ((j : ℕ) → n - j < f → n - j < g → items at f j ≡ items at g j) → (x : Piece F X) → at i ≡ x → items at (suc f) i ≡ items at (suc g) i
        go again end e = rw (e, items)
        go again (fault y) e = rw (e, items)
        go again (item x j) e =
            let h = onward i x j e in
            rw (e, items) (ap (before x) (again j (omega arith) (omega arith)))

    pub unroll_end : (i : ℕ) → at i ≡ end → items_of at n i ≡ readable []
    unfolding items items_of
    unroll_end i e = rw (e, items)

    pub unroll_fault : (i : ℕ) (y : F) → at i ≡ fault y → items_of at n i ≡ faulty y
    unfolding items items_of
    unroll_fault i y e = rw (e, items)

    pub unroll_item : (i : ℕ) (x : X) (j : ℕ) → at i ≡ item x j → items_of at n i ≡ before x (items_of at n j)
    unfolding items items_of
    unroll_item i x j e =
        let h = onward i x j e in
        rw (e, items) (ap (before x) (same (n - i) (suc (n - j)) j (omega arith) (omega arith)))

-- what holds of each item that stands somewhere holds of all that a walk lists
module _ {F X : Type 0} (P : X → Type 0) where
  every_before : (x : X) (r : Reading F X) → P x → Every P (listed r) → Every P (listed (before x r))
  every_before x (readable l) p q = (p, q)
  every_before x (faulty f) p q = tt

  module _ (at : ℕ → Piece F X) (each : (i : ℕ) (x : X) (j : ℕ) → at i ≡ item x j → P x) where
    pub every_item : (most i : ℕ) → Every P (listed (items at most i))
    unfolding items
    every_item zero i = tt
    every_item (suc most) i = go (λ j. every_item most j) (at i) refl
      where
        go : ((j : ℕ) → Every P (listed (items at most j))) → (x : Piece F X) → at i ≡ x → Every P (listed (items at (suc most) i))
        go rest end e = rw (e, items) tt
        go rest (fault f) e = rw (e, items) tt
        go rest (item x j) e = rw (e, items) (every_before x (items at most j) (each i x j e) (rest j))
