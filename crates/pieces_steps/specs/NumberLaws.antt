-- Laws of numbers that are set: what they read as, and that the last setting counts. Assumes nothing.
use Rattle.std.specs.Prelude.{ℕ, ◌≤◌, ◌<◌, ◌≡◌}
use Rattle.std.proofs.Math.Path.{refl}
use Rattle.std.proofs.Common.{ap, arith, lt-ltb, le-ltb, length-set, set-set}
use mathlib.Core.List.{List, [], ◌∷◌}
use Rattle.std.proofs.Math.ListN.{length, get_or, set}
use Rattle.std.proofs.Math.Seq.{get_or-set_same}
use Rattle.std.proofs.lemmas.List.{set-get_or}
use Rattle.pieces_layout.specs.Reader.{Reader, reader_of, numbers_n, position_of, first_of, second_of, stage_of, state_of, moved, become}
use Rattle.pieces_steps.specs.Numbers.{numbers_as}

pub as_become : (w g : List ℕ) (p a b n : ℕ) → 4 ≤ length w → reader_of (numbers_as w p a b n) g ≡ become (reader_of w g) p a b n
unfolding numbers_as numbers_n become
as_become w g p a b n h = rw (le-ltb (length w) 4 h)

pub numbers_few : (w : List ℕ) (p a b n : ℕ) → length w < 4 → w ≡ numbers_as w p a b n
unfolding numbers_as numbers_n
numbers_few w p a b n h = rw (lt-ltb (length w) 4 h)

pub numbers_four : (w : List ℕ) (p a b n : ℕ) → 4 ≤ length w → set (set (set (set w 0 p) 1 a) 2 b) 3 n ≡ numbers_as w p a b n
unfolding numbers_as numbers_n
numbers_four w p a b n h = rw (le-ltb (length w) 4 h)

-- the last setting counts
set_again : (w : List ℕ) (p a b n q c d m : ℕ)
    → set (set (set (set (set (set (set (set w 0 p) 1 a) 2 b) 3 n) 0 q) 1 c) 2 d) 3 m ≡ set (set (set (set w 0 q) 1 c) 2 d) 3 m
set_again [] p a b n q c d m = refl
set_again (x ∷ []) p a b n q c d m = refl
set_again (x ∷ y ∷ []) p a b n q c d m = refl
set_again (x ∷ y ∷ z ∷ []) p a b n q c d m = refl
set_again (x ∷ y ∷ z ∷ u ∷ w) p a b n q c d m = refl

pub become_become : (r : Reader) (p a b n q c d m : ℕ) → become (become r p a b n) q c d m ≡ become r q c d m
unfolding become
become_become r p a b n q c d m = ap (λ w. reader_of w r.gathered) (set_again r.numbers p a b n q c d m)

pub become_moved : (r : Reader) (p q c d m : ℕ) → become (moved r p) q c d m ≡ become r q c d m
unfolding become moved
become_moved r p q c d m = ap (λ w. reader_of (set (set (set w 1 c) 2 d) 3 m) r.gathered) (set-set r.numbers 0 p q)

pub moved_moved : (r : Reader) (p q : ℕ) → moved (moved r p) q ≡ moved r q
unfolding moved
moved_moved r p q = ap (λ w. reader_of w r.gathered) (set-set r.numbers 0 p q)

pub moved_still : (r : Reader) → moved r (position_of r) ≡ r
unfolding moved position_of
moved_still r = ap (λ w. reader_of w r.gathered) (set-get_or r.numbers 0 0)

-- what the numbers read as
module _ (r : Reader) (room : 4 ≤ length r.numbers) where
  pub position_become : (p a b n : ℕ) → position_of (become r p a b n) ≡ p
  unfolding become position_of
  position_become p a b n = four r.numbers room
    where
      four : (w : List ℕ) → 4 ≤ length w → get_or (set (set (set (set w 0 p) 1 a) 2 b) 3 n) 0 0 ≡ p
      four [] h = absurd (omega arith)
      four (x ∷ w) h = refl

  pub state_become : (p a b n : ℕ) → state_of (become r p a b n) ≡ stage_of n a b
  unfolding become state_of first_of second_of
  state_become p a b n = four r.numbers room
    where
      four : (w : List ℕ) → 4 ≤ length w → (let v = set (set (set (set w 0 p) 1 a) 2 b) 3 n in stage_of (get_or v 3 0) (get_or v 1 0) (get_or v 2 0) ≡ stage_of n a b)
      four [] h = absurd (omega arith)
      four (x ∷ []) h = absurd (omega arith)
      four (x ∷ y ∷ []) h = absurd (omega arith)
      four (x ∷ y ∷ z ∷ []) h = absurd (omega arith)
      four (x ∷ y ∷ z ∷ u ∷ w) h = refl

  pub position_moved : (p : ℕ) → position_of (moved r p) ≡ p
  unfolding moved position_of
  position_moved p = get_or-set_same r.numbers 0 p 0 (omega arith)

pub state_moved : (r : Reader) (p : ℕ) → state_of (moved r p) ≡ state_of r
unfolding state_of moved first_of second_of
state_moved r p = go r.numbers
  where
    go : (w : List ℕ) → stage_of (get_or (set w 0 p) 3 0) (get_or (set w 0 p) 1 0) (get_or (set w 0 p) 2 0) ≡ stage_of (get_or w 3 0) (get_or w 1 0) (get_or w 2 0)
    go [] = refl
    go (x ∷ w) = refl

pub length_become : (r : Reader) (p a b n : ℕ) → length (become r p a b n).numbers ≡ length r.numbers
unfolding become
length_become r p a b n = simp length-set
