-- Laws of the stages: what the numbers say that a reader of frames does with a piece. Assumes nothing.
use Rattle.std.specs.Prelude.{ℕ, ◌%◌, ◌≤◌, ◌<◌, ◌≡◌, ◌≢◌, Bool, eqb, length, drop}
use Rattle.std.proofs.Math.Path.{refl, ap}
use Rattle.std.proofs.Common.{sym, ◌∙◌, arith, drop-cons}
use mathlib.Core.List.{List, [], ◌∷◌, ◌++◌}
use Rattle.std.proofs.Math.Bool.{true, false, cond}
use borrow.Author.Tests.{lt-ltb, le-ltb, ne_eqb}
use Rattle.std.proofs.Math.ListN.{get_or}
use Rattle.pieces_layout.specs.Reader.{reader_of, numbers_n, heading, in_body, stopped, position_of, first_of, second_of, stage_of, state_of, is_init, no_room}
use Rattle.pieces_layout.specs.Step.{waiting, refused, short, still_in, taken_as, go_on, by_state, after_byte, fed_on, fed}
use Rattle.pieces_layout.specs.Answers.{taken_of}
use Rattle.pieces_layout.specs.declared.PieceSays.TheVariants as s
use Rattle.pieces_layout.specs.declared.Fed.{Fed}
use Rattle.pieces_steps.specs.Later.{later}
use Rattle.pieces_frames.specs.Frames.{again_of, headed_on, Heads, HeadsLast, fed_frames}
use Rattle.pieces_frames.specs.HeaderLaws.{fed_heading}

-- with fewer numbers than four there is no room
few : (w g : List ℕ) → length w < 4 → is_init (state_of (reader_of w g)) ≡ false
unfolding state_of stage_of first_of second_of
few [] g h = refl
few (x ∷ []) g h = refl
few (x ∷ y ∷ []) g h = refl
few (x ∷ y ∷ z ∷ []) g h = refl
few (x ∷ y ∷ z ∷ u ∷ w) g h = absurd (omega arith)

pub frames_short : (w g p : List ℕ) → length w < 4 → taken_as (reader_of w g) 0 short ≡ fed_frames (reader_of w g) p
unfolding fed_frames fed no_room numbers_n
frames_short w g p h = rw (few w g h, lt-ltb (length w) 4 h)

module _ (w g : List ℕ) (room : 4 ≤ length w) where
  pub frames_on : (p : List ℕ) → is_init (state_of (reader_of w g)) ≡ false → fed_on (reader_of w g) p ≡ fed_frames (reader_of w g) p
  unfolding fed_frames fed no_room numbers_n
  frames_on p e = rw (e, le-ltb (length w) 4 room)

  frames_init : (p : List ℕ) → is_init (state_of (reader_of w g)) ≡ true → taken_as (reader_of w g) 0 waiting ≡ fed_frames (reader_of w g) p
  unfolding fed_frames
  frames_init p e = rw e

  stage : (n : ℕ) → get_or w 3 0 ≡ n → state_of (reader_of w g) ≡ stage_of n (get_or w 1 0) (get_or w 2 0)
  unfolding state_of first_of second_of
  stage n e = ap (λ x. stage_of x (get_or w 1 0) (get_or w 2 0)) e

  pub state_body : get_or w 3 0 ≡ 3 → state_of (reader_of w g) ≡ in_body (get_or w 1 0) (get_or w 2 0)
  unfolding stage_of
  state_body e = stage 3 e

  pub state_one : get_or w 3 0 ≡ 1 → state_of (reader_of w g) ≡ heading (get_or w 1 0 % 256 ∷ [])
  unfolding stage_of
  state_one e = stage 1 e

  pub state_two : get_or w 3 0 ≡ 2 → state_of (reader_of w g) ≡ heading (get_or w 1 0 % 256 ∷ get_or w 2 0 % 256 ∷ [])
  unfolding stage_of
  state_two e = stage 2 e

  some_header : get_or w 3 0 ≢ 3 → get_or w 3 0 ≢ 4 → get_or w 3 0 ≢ 5 → get_or w 3 0 ≢ 6
      → state_of (reader_of w g) ≡ cond (eqb (get_or w 3 0) 1) (heading (get_or w 1 0 % 256 ∷ [])) (cond (eqb (get_or w 3 0) 2) (heading (get_or w 1 0 % 256 ∷ get_or w 2 0 % 256 ∷ [])) (heading []))
  unfolding state_of stage_of first_of second_of
  some_header c d e f = rw (ne_eqb _ _ c, ne_eqb _ _ d, ne_eqb _ _ e, ne_eqb _ _ f)

  pub state_none : get_or w 3 0 ≢ 1 → get_or w 3 0 ≢ 2 → get_or w 3 0 ≢ 3 → get_or w 3 0 ≢ 4 → get_or w 3 0 ≢ 5 → get_or w 3 0 ≢ 6 → state_of (reader_of w g) ≡ heading []
  unfolding state_of stage_of first_of second_of
  state_none a b c d e f = rw (ne_eqb _ _ a, ne_eqb _ _ b, ne_eqb _ _ c, ne_eqb _ _ d, ne_eqb _ _ e, ne_eqb _ _ f)

  pub frames_init1 : (p : List ℕ) → get_or w 3 0 ≡ 4 → taken_as (reader_of w g) 0 waiting ≡ fed_frames (reader_of w g) p
  unfolding stage_of
  frames_init1 p e = frames_init p (ap is_init (stage 4 e))

  pub frames_init2 : (p : List ℕ) → get_or w 3 0 ≡ 5 → taken_as (reader_of w g) 0 waiting ≡ fed_frames (reader_of w g) p
  unfolding stage_of
  frames_init2 p e = frames_init p (ap is_init (stage 5 e))

  -- a state that is no Init's
  pub frames_heading : (p s : List ℕ) → state_of (reader_of w g) ≡ heading s → fed_on (reader_of w g) p ≡ fed_frames (reader_of w g) p
  frames_heading p s e = frames_on p (ap is_init e)

  pub frames_body : (p : List ℕ) (b e : ℕ) → state_of (reader_of w g) ≡ in_body b e → fed_on (reader_of w g) p ≡ fed_frames (reader_of w g) p
  frames_body p b e q = frames_on p (ap is_init q)

  -- no byte of a header
  pub frames_still : (s : List ℕ) → state_of (reader_of w g) ≡ heading s → taken_as (reader_of w g) 0 waiting ≡ fed_frames (reader_of w g) []
  unfolding fed_on
  frames_still s e = ap (λ x. taken_as (reader_of w g) 0 (still_in x (position_of (reader_of w g)))) (sym e) ∙ frames_heading [] s e

  -- a refusal is given again
  stays : (n : ℕ) (p : List ℕ) → state_of (reader_of w g) ≡ stopped n → taken_as (reader_of w g) 0 (refused n (get_or w 0 0)) ≡ fed_on (reader_of w g) p
  unfolding fed_on after_byte by_state go_on position_of
  stays n [] e = ap (λ x. taken_as (reader_of w g) 0 (still_in x (get_or w 0 0))) (sym e)
  stays n (b ∷ l) e = ap (λ x. go_on (by_state x (reader_of w g) b) (λ y. fed_on y l)) (sym e)

  again_told : (n at : ℕ) → taken_of (again_of n at) w g ≡ taken_as (reader_of w g) 0 (refused (cond (eqb n 8) 8 (cond (eqb n 10) 10 11)) at)
  unfolding again_of
  again_told n at = go (eqb n 8) (eqb n 10)
    where
      go : (a b : Bool) → taken_of (record { used = 0; says = cond a (s.Unreadable at) (cond b (s.NoCommonCipher at) (s.NoFrame at)) }) w g ≡ taken_as (reader_of w g) 0 (refused (cond a 8 (cond b 10 11)) at)
      go true b = refl
      go false true = refl
      go false false = refl

  pub frames_again : (p : List ℕ) → get_or w 3 0 ≡ 6 → taken_of (again_of (get_or w 1 0) (get_or w 0 0)) w g ≡ fed_frames (reader_of w g) p
  unfolding stage_of
  frames_again p e = again_told (get_or w 1 0) (get_or w 0 0) ∙ (stays _ p (stage 6 e) ∙ frames_on p (ap is_init (stage 6 e)))

  -- no byte, and no Init message, body or refusal
  pub frames_empty : (p : List ℕ) → length p ≡ 0 → get_or w 3 0 ≢ 3 → get_or w 3 0 ≢ 4 → get_or w 3 0 ≢ 5 → get_or w 3 0 ≢ 6 → taken_as (reader_of w g) 0 waiting ≡ fed_frames (reader_of w g) p
  frames_empty [] h c d e f = go (eqb (get_or w 3 0) 1) (eqb (get_or w 3 0) 2) (some_header c d e f)
    where
      go : (a b : Bool) → state_of (reader_of w g) ≡ cond a (heading (get_or w 1 0 % 256 ∷ [])) (cond b (heading (get_or w 1 0 % 256 ∷ get_or w 2 0 % 256 ∷ [])) (heading []))
          → taken_as (reader_of w g) 0 waiting ≡ fed_frames (reader_of w g) []
      go true b q = frames_still (get_or w 1 0 % 256 ∷ []) q
      go false true q = frames_still (get_or w 1 0 % 256 ∷ get_or w 2 0 % 256 ∷ []) q
      go false false q = frames_still [] q
  frames_empty (x ∷ p) h c d e f = absurd (omega arith)

  -- a header's next byte is the piece's first
  module _ (piece : List ℕ) (some : length piece ≢ 0) (f : Fed) (after : List ℕ) where
    first_of_lem : (s : List ℕ) → state_of (reader_of w g) ≡ heading s → taken_of f after g ≡ headed_on (reader_of w g) (get_or w 0 0) (s ++ (get_or piece 0 0 ∷ [])) (drop 1 piece)
        → taken_of f after g ≡ fed_frames (reader_of w g) piece
    unfolding position_of
    first_of_lem s e q =
        q
        ∙ (sym (fed_heading (reader_of w g) s (get_or piece 0 0) (drop 1 piece) e)
        ∙ (ap (fed_on (reader_of w g)) (sym (drop-cons piece 0 0 (omega arith))) ∙ frames_heading piece s e))

    pub frames_third : (control high : ℕ) → get_or w 3 0 ≡ 2 → control ≡ get_or w 1 0 % 256 → high ≡ get_or w 2 0 % 256
        → HeadsLast f after w (get_or w 0 0) (control ∷ high ∷ get_or piece 0 0 ∷ []) 0 → taken_of f after g ≡ fed_frames (reader_of w g) piece
    unfolding later
    frames_third control high e p q told =
        first_of_lem (get_or w 1 0 % 256 ∷ get_or w 2 0 % 256 ∷ []) (state_two e)
        (told g (drop 1 piece) ∙ (λ i. headed_on (reader_of w g) (get_or w 0 0) (p i ∷ q i ∷ get_or piece 0 0 ∷ []) (drop 1 piece)))

    pub frames_second : (control : ℕ) → get_or w 3 0 ≡ 1 → control ≡ get_or w 1 0 % 256
        → Heads f after w (get_or w 0 0) (control ∷ get_or piece 0 0 ∷ []) (drop 1 piece) 0 → taken_of f after g ≡ fed_frames (reader_of w g) piece
    unfolding later
    frames_second control e p told =
        first_of_lem (get_or w 1 0 % 256 ∷ []) (state_one e)
        (told g ∙ (λ i. headed_on (reader_of w g) (get_or w 0 0) (p i ∷ get_or piece 0 0 ∷ []) (drop 1 piece)))

    pub frames_first : get_or w 3 0 ≢ 1 → get_or w 3 0 ≢ 2 → get_or w 3 0 ≢ 3 → get_or w 3 0 ≢ 4 → get_or w 3 0 ≢ 5 → get_or w 3 0 ≢ 6
        → Heads f after w (get_or w 0 0) (get_or piece 0 0 ∷ []) (drop 1 piece) 0 → taken_of f after g ≡ fed_frames (reader_of w g) piece
    unfolding later
    frames_first a b c d e h told = first_of_lem [] (state_none a b c d e h) (told g)
