-- Laws of the stages that a piece goes to: each takes it as the reader does. Assumes nothing.
use Rattle.std.specs.Prelude.{ℕ, ◌%◌, ◌<◌, ◌≡◌, List, [], ◌∷◌, Bool, eqb, length, get_or}
use Rattle.std.proofs.Math.Path.{refl, ap}
use Rattle.std.proofs.Common.{◌∙◌}
use Rattle.std.proofs.Math.Bool.{true, false, cond}
use borrow.Author.Tests.{lt-ltb, eq-eqb, ne_eqb}
use Rattle.pieces_layout.specs.Reader.{reader_of, heading, in_body, stopped, first_of, second_of, stage_of, state_of, is_init, numbers_n, no_room}
use Rattle.pieces_layout.specs.Step.{waiting, short, Taken, taken_as, fed}
use Rattle.pieces_frames.specs.Frames.{fed_frames}
use Rattle.pieces_init.specs.Gathering.{fed_init}

module _ (w g p : List ℕ) (t : Taken) where
  pub by_init1 : get_or w 3 0 ≡ 4 → t ≡ fed_init false (reader_of w g) p → t ≡ fed (reader_of w g) p
  unfolding fed_init
  by_init1 e q = q ∙ ap (λ b. cond b (fed (reader_of w g) p) (taken_as (reader_of w g) 0 waiting)) (eq-eqb (get_or w 3 0) 4 e)

  pub by_init2 : get_or w 3 0 ≡ 5 → t ≡ fed_init true (reader_of w g) p → t ≡ fed (reader_of w g) p
  unfolding fed_init
  by_init2 e q = q ∙ ap (λ b. cond b (fed (reader_of w g) p) (taken_as (reader_of w g) 0 waiting)) (eq-eqb (get_or w 3 0) 5 e)

  frames : is_init (state_of (reader_of w g)) ≡ false → t ≡ fed_frames (reader_of w g) p → t ≡ fed (reader_of w g) p
  unfolding fed_frames
  frames e q = q ∙ ap (λ b. cond b (taken_as (reader_of w g) 0 waiting) (fed (reader_of w g) p)) e

  no_init : (n a b : ℕ) → (n ≡ 4 → ⊥) → (n ≡ 5 → ⊥) → is_init (stage_of n a b) ≡ false
  unfolding stage_of
  no_init n a b d e = rw (ne_eqb n 4 d, ne_eqb n 5 e) (go (eqb n 1) (eqb n 2) (eqb n 3) (eqb n 6))
    where
      go : (x y z u : Bool) → is_init (cond x (heading (a % 256 ∷ [])) (cond y (heading (a % 256 ∷ b % 256 ∷ [])) (cond z (in_body a b) (cond u (stopped (cond (eqb a 8) 8 (cond (eqb a 10) 10 11))) (heading []))))) ≡ false
      go true y z u = refl
      go false true z u = refl
      go false false true u = refl
      go false false false true = refl
      go false false false false = refl

  pub by_frames : (get_or w 3 0 ≡ 4 → ⊥) → (get_or w 3 0 ≡ 5 → ⊥) → t ≡ fed_frames (reader_of w g) p → t ≡ fed (reader_of w g) p
  unfolding state_of first_of second_of
  by_frames d e q = frames (no_init (get_or w 3 0) (get_or w 1 0) (get_or w 2 0) d e) q

pub by_short : (w g p : List ℕ) → length w < 4 → taken_as (reader_of w g) 0 short ≡ fed (reader_of w g) p
unfolding fed no_room numbers_n
by_short w g p h = rw (lt-ltb (length w) 4 h)
