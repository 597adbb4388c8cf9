-- Laws of a header's bytes: each is refused, waits for the next, or finishes the header. Assumes nothing.
use Prim.Native.Nat.{ℕ, zero, suc, ◌+◌, ◌-◌, ◌*◌, ◌%◌, ◌≤◌, ◌<◌}
use Rattle.std.specs.Prelude.{◌≡◌, refl, List, [], ◌∷◌, ◌++◌, true, false, length}
use Rattle.std.proofs.Common.{sym, ◌∙◌, mod-eq_of_lt, le-ltb}
use Rattle.std.proofs.Math.Path.{ap}
use native.Mathlib.Omega.{arith}
use Rattle.wire.specs.Bytes.{part, bytes_from}
use Rattle.wire.specs.Number.{number, number_after, number_at}
use Rattle.refusals.specs.Rows.{refusal}
use Rattle.frame_layout.specs.Layout.{bit0, associated, least_length, next_offset, no_frame}
use Rattle.frame_layout.specs.Outcome as frame
use Rattle.frame_layout.specs.Outcome.{unless}
use Rattle.frame_layout.specs.Calls.{read_header, length_in, header_in, outcome}
use Rattle.pieces_layout.specs.Reader.{Reader, heading, stage_of, position_of, state_of, become}
use Rattle.pieces_layout.specs.Step.{waiting, item, still_in, taken_as, stop, least_in, hopeless, headed, go_on, by_state, after_byte, fed_on}
use Rattle.pieces_layout.specs.Answers.{header_seen}
use Rattle.pieces_steps.specs.Later.{later}
use Rattle.pieces_steps.specs.LaterLaws.{on_later, later_waits}
use Rattle.pieces_steps.specs.NumberLaws.{become_become, position_become, state_become}
use Rattle.pieces_frames.specs.Frames.{stopped_at, headed_at, headed_on}

-- the reader at hand, and one whose numbers are those of a header that has come so far
pub headed_here : (r : Reader) (p : List ℕ) → headed r p ≡ headed_at r (position_of r) p
unfolding headed headed_at stop
headed_here r p = refl

pub headed_become : (r : Reader) → 4 ≤ length r.numbers → (q a b n : ℕ) (p : List ℕ) → headed (become r q a b n) p ≡ headed_at r q p
unfolding headed headed_at stop
headed_become r room q a b n p = simp (position_become r room q a b n, become_become)

pub fed_heading : (r : Reader) (s : List ℕ) (b : ℕ) (l : List ℕ) → state_of r ≡ heading s → fed_on r (b ∷ l) ≡ headed_on r (position_of r) (s ++ (b ∷ [])) l
unfolding fed_on after_byte by_state headed_on
fed_heading r s b l e = ap (λ x. go_on (by_state x r b) (λ y. fed_on y l)) e ∙ ap (λ t. go_on t (λ y. fed_on y l)) (headed_here r (s ++ (b ∷ [])))

fed_come : (r : Reader) → 4 ≤ length r.numbers → (q a c n : ℕ) (s : List ℕ) (b : ℕ) (l : List ℕ) → stage_of n a c ≡ heading s
    → fed_on (become r q a c n) (b ∷ l) ≡ headed_on r q (s ++ (b ∷ [])) l
unfolding fed_on after_byte by_state headed_on
fed_come r room q a c n s b l e =
    ap (λ x. go_on (by_state x (become r q a c n) b) (λ y. fed_on y l)) (state_become r room q a c n ∙ e)
    ∙ ap (λ t. go_on t (λ y. fed_on y l)) (headed_become r room q a c n (s ++ (b ∷ [])))

still_come : (r : Reader) → 4 ≤ length r.numbers → (q a c n : ℕ) (s : List ℕ) → stage_of n a c ≡ heading s → fed_on (become r q a c n) [] ≡ taken_as (become r q a c n) 0 waiting
unfolding fed_on
still_come r room q a c n s e = ap (λ x. taken_as (become r q a c n) 0 (still_in x (position_of (become r q a c n)))) (state_become r room q a c n ∙ e)

one_at_hand : (c : ℕ) → c < 256 → stage_of 1 c 0 ≡ heading (c ∷ [])
unfolding stage_of
one_at_hand c h = ap (λ x. heading (x ∷ [])) (mod-eq_of_lt h)

two_at_hand : (c h : ℕ) → c < 256 → h < 256 → stage_of 2 c h ≡ heading (c ∷ h ∷ [])
unfolding stage_of
two_at_hand c h p q = ap (λ x. heading (x ∷ h % 256 ∷ [])) (mod-eq_of_lt p) ∙ ap (λ x. heading (c ∷ x ∷ [])) (mod-eq_of_lt q)

-- the least lengths that headers may have
pub least_one : (c : ℕ) → least_in (c ∷ []) ≡ 17
unfolding least_in length_in number_at number number_after bytes_from least_length
least_one c = refl

pub least_two : (c h : ℕ) → least_in (0 ∷ h ∷ []) ≡ least_in (c ∷ h ∷ [])
unfolding least_in length_in number_at number number_after bytes_from
least_two c h = refl

pub least_three : (c h n : ℕ) → h * 256 + n ≡ least_in (c ∷ h ∷ n ∷ [])
unfolding least_in length_in number_at number number_after bytes_from
least_three c h n = omega arith

length_two : (h : ℕ) → length_in (0 ∷ h ∷ []) ≡ h * 256
unfolding length_in number_at number number_after bytes_from
length_two h = omega arith

pub least_zero : (h : ℕ) → h ≡ 0 → 17 ≡ least_in (0 ∷ h ∷ [])
unfolding least_in length_in number_at number number_after bytes_from least_length
least_zero h e = rw e

pub least_more : (h : ℕ) → (h ≡ 0 → ⊥) → (x : ℕ) → x ≡ h → x * 256 ≡ least_in (0 ∷ h ∷ [])
unfolding least_in least_length
least_more h d x q = rw (length_two h, le-ltb (h * 256) 17 (omega arith)) (ap (λ y. y * 256) q)

module _ (r : Reader) (at : ℕ) where
  -- 11 with this byte
  pub heads_none : (k : ℕ) (p l : List ℕ) → hopeless (at - (length p - 1)) p ≡ true → stopped_at r at ≡ later k (headed_on r at p l)
  unfolding headed_on headed_at go_on later
  heads_none zero p l e = rw e
  heads_none (suc k) p l e = rw e

  module _ (room : 4 ≤ length r.numbers) where
    -- one byte at hand
    module _ (c : ℕ) (byte : c < 256) (hope : hopeless (at - 0) (c ∷ []) ≡ false) where
      first_waits : (l : List ℕ) → headed_on r at (c ∷ []) l ≡ later 1 (fed_on (become r (at + 1) c 0 1) l)
      unfolding headed_on headed_at
      first_waits l = rw hope (on_later (become r (at + 1) c 0 1) (λ x. fed_on x l))

      pub first_last : taken_as (become r (at + 1) c 0 1) 1 waiting ≡ headed_on r at (c ∷ []) []
      first_last =
          sym (first_waits []
          ∙ (ap (later 1) (still_come r room (at + 1) c 0 1 (c ∷ []) (one_at_hand c byte)) ∙ later_waits 1 (become r (at + 1) c 0 1) 0))

      pub first_on : (b : ℕ) (l : List ℕ) → later 1 (headed_on r (at + 1) (c ∷ b ∷ []) l) ≡ headed_on r at (c ∷ []) (b ∷ l)
      first_on b l = sym (first_waits (b ∷ l) ∙ ap (later 1) (fed_come r room (at + 1) c 0 1 (c ∷ []) b l (one_at_hand c byte)))

    -- two bytes at hand
    module _ (c h : ℕ) (byte : c < 256) (byte2 : h < 256) (hope : hopeless (at - 1) (c ∷ h ∷ []) ≡ false) where
      second_waits : (l : List ℕ) → headed_on r at (c ∷ h ∷ []) l ≡ later 1 (fed_on (become r (at + 1) c h 2) l)
      unfolding headed_on headed_at
      second_waits l = rw hope (on_later (become r (at + 1) c h 2) (λ x. fed_on x l))

      pub second_last : taken_as (become r (at + 1) c h 2) 1 waiting ≡ headed_on r at (c ∷ h ∷ []) []
      second_last =
          sym (second_waits []
          ∙ (ap (later 1) (still_come r room (at + 1) c h 2 (c ∷ h ∷ []) (two_at_hand c h byte byte2)) ∙ later_waits 1 (become r (at + 1) c h 2) 0))

      pub second_on : (b : ℕ) (l : List ℕ) → later 1 (headed_on r (at + 1) (c ∷ h ∷ b ∷ []) l) ≡ headed_on r at (c ∷ h ∷ []) (b ∷ l)
      second_on b l = sym (second_waits (b ∷ l) ∙ ap (later 1) (fed_come r room (at + 1) c h 2 (c ∷ h ∷ []) b l (two_at_hand c h byte byte2)))

  -- a whole header
  module _ (c h n : ℕ) (hope : no_frame (at - 2) (h * 256 + n) ≡ false) where
    length_is : length_in (c ∷ h ∷ n ∷ []) ≡ h * 256 + n
    unfolding length_in number_at number number_after bytes_from
    length_is = omega arith

    read_at : (clen : ℕ) → length_in (c ∷ h ∷ n ∷ []) ≡ clen → no_frame (at - 2) clen ≡ false
        → outcome (read_header (c ∷ h ∷ n ∷ []) (at - 2)) ≡ record { reply = frame.header (bit0 c) clen (next_offset (at - 2) clen); bytes = c ∷ h ∷ n ∷ []; buffer = [] }
    unfolding outcome unless refusal header_in associated part
    read_at clen e q = rw (e, q)

    read_whole : outcome (read_header (c ∷ h ∷ n ∷ []) (at - 2)) ≡ record { reply = frame.header (bit0 c) (h * 256 + n) (next_offset (at - 2) (h * 256 + n)); bytes = c ∷ h ∷ n ∷ []; buffer = [] }
    read_whole = read_at (h * 256 + n) length_is hope

    hopeful : hopeless (at - 2) (c ∷ h ∷ n ∷ []) ≡ false
    unfolding hopeless
    hopeful = ap (no_frame (at - 2)) (sym (least_three c h n)) ∙ hope

    pub third_whole : (l : List ℕ)
        → taken_as (become r (at + 1) (at + 1) (next_offset (at - 2) (h * 256 + n)) 3) 1 (item (header_seen (frame.header (bit0 c) (h * 256 + n) (next_offset (at - 2) (h * 256 + n))) c h n))
        ≡ headed_on r at (c ∷ h ∷ n ∷ []) l
    unfolding headed_on headed_at go_on
    third_whole l = rw (hopeful, length_is, read_whole)
