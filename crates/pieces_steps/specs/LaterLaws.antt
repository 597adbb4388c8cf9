-- Laws of bytes that were taken before. Assumes nothing.
use Rattle.std.specs.Prelude.{ℕ, zero, suc, ◌+◌, ◌≡◌, refl}
use Rattle.std.proofs.Common.{sym, ◌∙◌, ap, zero-add, add-zero, arith}
use Rattle.pieces_layout.specs.Reader.{Reader}
use Rattle.pieces_layout.specs.Step.{Item, Told, waiting, item, refused, short, Taken, taken_as, more, go_on}
use Rattle.pieces_steps.specs.Later.{more_by, later}

-- on while the reader waits
pub on_later : (r : Reader) (next : Reader → Taken) → go_on (taken_as r 1 waiting) next ≡ later 1 (next r)
unfolding go_on later
on_later r next = ap (λ n. taken_as (next r).reader n (next r).told) (go (next r).told (next r).used)
  where
    go : (t : Told) (n : ℕ) → more n t ≡ more_by 1 n t
    go waiting n = omega arith
    go (item x) n = omega arith
    go (refused m p) n = refl
    go short n = refl

pub later_later : (j k : ℕ) (t : Taken) → later j (later k t) ≡ later (j + k) t
unfolding later
later_later zero k t = ap (λ n. later n t) (sym (zero-add k))
later_later (suc j) zero t = ap (λ n. later n t) (sym (add-zero (suc j)))
later_later (suc j) (suc k) t =
    let e : suc (j + suc k) ≡ suc j + suc k = omega arith in
    ap (λ n. taken_as t.reader n t.told) (go t.told t.used) ∙ ap (λ n. later n t) e
  where
    go : (v : Told) (n : ℕ) → more_by (suc j) (more_by (suc k) n v) v ≡ more_by (suc (j + suc k)) n v
    go waiting n = omega arith
    go (item x) n = omega arith
    go (refused m p) n = refl
    go short n = refl

-- a reader that waits, an item, and a refusal
pub later_waits : (k : ℕ) (r : Reader) (n : ℕ) → later k (taken_as r n waiting) ≡ taken_as r (k + n) waiting
unfolding later
later_waits zero r n = ap (λ k. taken_as r k waiting) (sym (zero-add n))
later_waits (suc k) r n = refl

pub later_item : (k : ℕ) (r : Reader) (n : ℕ) (x : Item) → later k (taken_as r n (item x)) ≡ taken_as r (k + n) (item x)
unfolding later
later_item zero r n x = ap (λ k. taken_as r k (item x)) (sym (zero-add n))
later_item (suc k) r n x = refl

pub later_refused : (k : ℕ) (r : Reader) (m p : ℕ) → later k (taken_as r 0 (refused m p)) ≡ taken_as r 0 (refused m p)
unfolding later
later_refused zero r m p = refl
later_refused (suc k) r m p = refl
