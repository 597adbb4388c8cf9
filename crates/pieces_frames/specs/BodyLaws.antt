-- Laws of a body's bytes: a piece is taken at once. Assumes nothing.
use Rattle.std.specs.Prelude.{ℕ, zero, suc, ◌+◌, ◌-◌, ◌≤◌, ◌<◌, ◌≡◌, refl, ◌≢◌, set}
use Rattle.std.proofs.Math.Path.{sym, ap}
use Rattle.std.proofs.Common.{◌∙◌, arith, lt-ltb, le-ltb, length-set}
use mathlib.Core.List.{List, [], ◌∷◌}
use Rattle.std.proofs.Math.ListN.{length}
use Rattle.pieces_layout.specs.Reader.{Reader, reader_of, in_body, position_of, state_of, moved, become}
use Rattle.pieces_layout.specs.Step.{body, waiting, item, still_in, taken_as, bodied, go_on, by_state, after_byte, fed_on}
use Rattle.pieces_layout.specs.Answers.{taken_of}
use Rattle.pieces_layout.specs.declared.PieceSays.TheVariants as s
use Rattle.pieces_layout.specs.declared.Fed.{Fed}
use Rattle.pieces_steps.specs.Numbers.{numbers_as}
use Rattle.pieces_steps.specs.Later.{waiting_of, later}
use Rattle.pieces_steps.specs.LaterLaws.{on_later, later_waits, later_item}
use Rattle.pieces_steps.specs.NumberLaws.{as_become, become_moved, moved_moved, moved_still, position_moved, state_moved}
use Rattle.pieces_frames.specs.Frames.{FedBody}

long : (r : Reader) (p : ℕ) → length (moved r p).numbers ≡ length r.numbers
unfolding moved
long r p = length-set r.numbers 0 p

module _ (begins ends : ℕ) where
  one_byte : (r : Reader) (b : ℕ) (l : List ℕ) → state_of r ≡ in_body begins ends → fed_on r (b ∷ l) ≡ go_on (bodied r begins ends) (λ x. fed_on x l)
  unfolding fed_on after_byte by_state
  one_byte r b l e = ap (λ s. go_on (by_state s r b) (λ x. fed_on x l)) e

  no_byte : (r : Reader) → state_of r ≡ in_body begins ends → fed_on r [] ≡ taken_as r 0 waiting
  unfolding fed_on
  no_byte r e = ap (λ s. taken_as r 0 (still_in s (position_of r))) e

  within : (r : Reader) (b : ℕ) (l : List ℕ) → state_of r ≡ in_body begins ends → position_of r + 1 < ends
      → fed_on r (b ∷ l) ≡ later 1 (fed_on (moved r (position_of r + 1)) l)
  unfolding bodied
  within r b l e h = one_byte r b l e ∙ (rw (lt-ltb (position_of r + 1) ends h) (on_later (moved r (position_of r + 1)) (λ x. fed_on x l)))

  pub last_byte : (r : Reader) (b : ℕ) (l : List ℕ) → state_of r ≡ in_body begins ends → ends ≤ position_of r + 1
      → taken_as (become r ends 0 0 0) 1 (item (body begins ends)) ≡ fed_on r (b ∷ l)
  unfolding bodied go_on
  last_byte r b l e h = sym (one_byte r b l e ∙ (rw (le-ltb (position_of r + 1) ends h)))

  pub body_still : (r : Reader) → state_of r ≡ in_body begins ends → taken_as r 0 waiting ≡ fed_on r []
  body_still r e = sym (no_byte r e)

  -- a piece that ends before the body does
  pub body_waits : (p : List ℕ) (r : Reader) → 4 ≤ length r.numbers → state_of r ≡ in_body begins ends → position_of r + length p < ends
      → taken_as (moved r (position_of r + length p)) (length p) waiting ≡ fed_on r p
  body_waits [] r room e h =
      let z : position_of r + 0 ≡ position_of r = omega arith in
      ap (λ x. taken_as x 0 waiting) (ap (moved r) z ∙ moved_still r) ∙ body_still r e
  body_waits (b ∷ p) r room e h =
      let x = moved r (position_of r + 1) in
      let at : position_of x ≡ position_of r + 1 = position_moved r room (position_of r + 1) in
      let z : position_of r + 1 + length p ≡ position_of r + suc (length p) = omega arith in
      let y : 1 + length p ≡ suc (length p) = omega arith in
      sym (within r b p e (omega arith)
      ∙ (ap (later 1) (sym (body_waits p x (omega (arith, long r (position_of r + 1))) (state_moved r (position_of r + 1) ∙ e) (omega arith)))
      ∙ (later_waits 1 (moved x (position_of x + length p)) (length p)
      ∙ (ap (λ n. taken_as (moved x (position_of x + length p)) n waiting) y
      ∙ ap (λ s. taken_as s (suc (length p)) waiting) (moved_moved r (position_of r + 1) (position_of x + length p) ∙ ap (moved r) (ap (λ n. n + length p) at ∙ z))))))

  -- a piece with which it ends
  pub body_ends : (p : List ℕ) (r : Reader) → 4 ≤ length r.numbers → state_of r ≡ in_body begins ends → position_of r < ends → (n : ℕ) → n ≡ ends - position_of r → n ≤ length p
      → taken_as (become r ends 0 0 0) n (item (body begins ends)) ≡ fed_on r p
  body_ends [] r room e h n q k = absurd (omega arith)
  body_ends (b ∷ p) r room e h zero q k = absurd (omega arith)
  body_ends (b ∷ p) r room e h (suc zero) q k = last_byte r b p e (omega arith)
  body_ends (b ∷ p) r room e h (suc (suc n)) q k =
      let x = moved r (position_of r + 1) in
      let at : position_of x ≡ position_of r + 1 = position_moved r room (position_of r + 1) in
      let y : 1 + suc n ≡ suc (suc n) = omega arith in
      sym (within r b p e (omega arith)
      ∙ (ap (later 1) (sym (body_ends p x (omega (arith, long r (position_of r + 1))) (state_moved r (position_of r + 1) ∙ e) (omega arith) (suc n) (omega arith) (omega arith)))
      ∙ (later_item 1 (become x ends 0 0 0) (suc n) (body begins ends)
      ∙ (λ i. taken_as (become_moved r (position_of r + 1) ends 0 0 0 i) (y i) (item (body begins ends))))))

-- the ways through the step on a body, as the code goes them
module _ (w piece : List ℕ) (at begins ends : ℕ) where
  pub body_on : (f : Fed) → 4 ≤ length w → at + length piece < ends → f ≡ waiting_of (length piece) → FedBody f (set w 0 (at + length piece)) w at begins ends piece
  unfolding moved position_of
  body_on f room h e g ea es =
      ap (λ x. taken_of x (set w 0 (at + length piece)) g) e
      ∙ (ap (λ k. taken_as (reader_of (set w 0 (k + length piece)) g) (length piece) waiting) (sym ea)
      ∙ body_waits begins ends piece (reader_of w g) room es (omega arith))

  pub body_over : (after : List ℕ) (n : ℕ) → 4 ≤ length w → at < ends → n ≡ ends - at → n ≤ length piece → after ≡ numbers_as w ends 0 0 0
      → FedBody (record { used = n; says = s.Body begins ends }) after w at begins ends piece
  unfolding position_of
  body_over after n room h q k e g ea es =
      ap (λ r. taken_as r n (item (body begins ends))) (ap (λ v. reader_of v g) e ∙ as_become w g ends 0 0 0 room)
      ∙ body_ends begins ends piece (reader_of w g) room es (omega arith) n (q ∙ ap (λ k. ends - k) (sym ea)) k

  pub body_none : (f : Fed) → length piece ≡ 0 → f ≡ waiting_of 0 → FedBody f w w at begins ends piece
  body_none f h e g ea es =
      ap (λ x. taken_of x w g) e ∙ (body_still begins ends (reader_of w g) es ∙ ap (fed_on (reader_of w g)) (sym (empty piece h)))
    where
      empty : (l : List ℕ) → length l ≡ 0 → l ≡ []
      empty [] q = refl
      empty (b ∷ l) q = absurd (omega arith)

  pub body_past : (after : List ℕ) → 4 ≤ length w → ends ≤ at → length piece ≢ 0 → after ≡ numbers_as w ends 0 0 0
      → FedBody (record { used = 1; says = s.Body begins ends }) after w at begins ends piece
  unfolding position_of
  body_past after room h some e g ea es =
      ap (λ r. taken_as r 1 (item (body begins ends))) (ap (λ v. reader_of v g) e ∙ as_become w g ends 0 0 0 room)
      ∙ go piece some
    where
      go : (l : List ℕ) → length l ≢ 0 → taken_as (become (reader_of w g) ends 0 0 0) 1 (item (body begins ends)) ≡ fed_on (reader_of w g) l
      go [] q = absurd (q refl)
      go (b ∷ l) q = last_byte begins ends (reader_of w g) b l es (omega arith)
