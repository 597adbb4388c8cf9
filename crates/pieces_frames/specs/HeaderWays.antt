-- The ways through the steps on a header's bytes, as the code goes them. Assumes nothing.
use Rattle.std.specs.Prelude.{ℕ, suc, ◌+◌, ◌-◌, ◌*◌, ◌≤◌, ◌<◌, ◌≡◌, List, [], ◌∷◌, Bool, false, length, get_or, drop}
use Rattle.std.proofs.Math.Path.{sym, ap, ap₂}
use Rattle.std.proofs.Common.{◌∙◌, arith, drop_of_length-le, drop-cons}
use Rattle.std.proofs.Math.Bool.{true}
use Rattle.std.proofs.Math.Nat.{sub-zero}
use Rattle.frame_layout.specs.Layout.{bit0, next_offset, no_frame, most_offset}
use Rattle.frame_layout.proofs.LayoutLaws.{frame_fits}
use Rattle.frame_layout.specs.Outcome as frame
use Rattle.pieces_layout.specs.Reader.{reader_of, become}
use Rattle.pieces_layout.specs.Step.{waiting, item, refused, taken_as, least_in, hopeless}
use Rattle.pieces_layout.specs.Answers.{header_seen, taken_of}
use Rattle.pieces_layout.specs.declared.PieceSays.TheVariants as s
use Rattle.pieces_layout.specs.declared.Fed.{Fed}
use Rattle.pieces_steps.specs.Numbers.{numbers_as}
use Rattle.pieces_steps.specs.NumberLaws.{as_become}
use Rattle.pieces_steps.specs.Later.{waiting_of, later}
use Rattle.pieces_steps.specs.LaterLaws.{later_later, later_waits, later_item}
use Rattle.pieces_frames.specs.Frames.{headed_on, Stops, Heads, HeadsLast}
use Rattle.pieces_frames.specs.HeaderLaws.{least_one, least_two, least_three, heads_none, first_last, first_on, second_last, second_on, third_whole}

-- a frame that may begin leaves room for its header
pub room_behind : (offset clen : ℕ) → no_frame offset clen ≡ false → offset + 20 ≤ 0xffffffffffffffff
unfolding next_offset most_offset
room_behind offset clen e = let q = frame_fits offset clen e in omega arith

-- a refusal is noted
pub stops_told : (before after : List ℕ) (at : ℕ) → 4 ≤ length before → after ≡ numbers_as before at 11 0 6 → Stops (record { used = 0; says = s.NoFrame at }) after before at
stops_told before after at room e g = ap (λ r. taken_as r 0 (refused 11 at)) (ap (λ w. reader_of w g) e ∙ as_become before g at 11 0 6 room)

module _ (before : List ℕ) (at : ℕ) where
  -- the third byte
  module _ (c h n : ℕ) (offset clen : ℕ) (is-offset : offset ≡ at - 2) (is_length : clen ≡ h * 256 + n) where
    same : (b : Bool) → no_frame offset clen ≡ b → no_frame (at - 2) (h * 256 + n) ≡ b
    same b e = ap₂ no_frame (sym is-offset) (sym is_length) ∙ e

    pub third_stops : (f : Fed) (after : List ℕ) (k : ℕ) → no_frame offset clen ≡ true → Stops f after before at → HeadsLast f after before at (c ∷ h ∷ n ∷ []) k
    unfolding hopeless
    third_stops f after k e told g l = told g ∙ heads_none (reader_of before g) at k (c ∷ h ∷ n ∷ []) l (ap (no_frame (at - 2)) (sym (least_three c h n)) ∙ same true e)

    pub third_heads : 4 ≤ length before → (next used k : ℕ) (after : List ℕ) → no_frame offset clen ≡ false → next ≡ next_offset offset clen
        → used ≡ k + 1 → after ≡ numbers_as before (at + 1) (at + 1) next 3
        → HeadsLast (record { used = used; says = s.Header (bit0 c) clen next c h n }) after before at (c ∷ h ∷ n ∷ []) k
    third_heads room next used k after hope en eu ea g l =
        let q : next ≡ next_offset (at - 2) (h * 256 + n) = en ∙ ap₂ next_offset is-offset is_length in
        (λ i. taken_as (reader_of (ea i) g) (eu i) (item (header_seen (frame.header (bit0 c) (is_length i) (q i)) c h n)))
        ∙ ((λ i. taken_as (as_become before g (at + 1) (at + 1) (q i) 3 room i) (k + 1) (item (header_seen (frame.header (bit0 c) (h * 256 + n) (next_offset (at - 2) (h * 256 + n))) c h n)))
        ∙ (sym (later_item k (become (reader_of before g) (at + 1) (at + 1) (next_offset (at - 2) (h * 256 + n)) 3) 1 _)
        ∙ ap (later k) (third_whole (reader_of before g) at c h n (same false hope) l)))

  -- the second byte
  module _ (c h : ℕ) (piece : List ℕ) (i : ℕ) (offset least : ℕ) (is-offset : offset ≡ at - 1) (is-least : least ≡ least_in (0 ∷ h ∷ [])) (b : Bool) (is_none : b ≡ no_frame offset least) where
    settled : hopeless (at - 1) (c ∷ h ∷ []) ≡ b
    unfolding hopeless
    settled = sym (is_none ∙ ap₂ no_frame is-offset (is-least ∙ least_two c h))

    pub second_stops : b ≡ true → (f : Fed) (after : List ℕ) → Stops f after before at → Heads f after before at (c ∷ h ∷ []) (drop (i + 1) piece) i
    second_stops e f after told g = told g ∙ heads_none (reader_of before g) at i (c ∷ h ∷ []) (drop (i + 1) piece) (settled ∙ e)

    module _ (hope : b ≡ false) (room : 4 ≤ length before) (byte : c < 256) (byte2 : h < 256) where
      pub second_waits : (f : Fed) (after : List ℕ) (x y : ℕ) → length piece ≤ i + 1 → f ≡ waiting_of (i + 1) → x ≡ c → y ≡ h → after ≡ numbers_as before (at + 1) x y 2
          → Heads f after before at (c ∷ h ∷ []) (drop (i + 1) piece) i
      second_waits f after x y over q ex ey e g =
          ap (λ x. taken_of x after g) q
          ∙ ((λ j. taken_as ((ap (λ w. reader_of w g) (e ∙ (λ k. numbers_as before (at + 1) (ex k) (ey k) 2)) ∙ as_become before g (at + 1) c h 2 room) j) (i + 1) waiting)
          ∙ (sym (later_waits i (become (reader_of before g) (at + 1) c h 2) 1)
          ∙ (ap (later i) (second_last (reader_of before g) at room c h byte byte2 (settled ∙ hope))
          ∙ ap (λ l. later i (headed_on (reader_of before g) at (c ∷ h ∷ []) l)) (sym (drop_of_length-le piece {i = i + 1} over)))))

      pub second_goes : (f : Fed) (after : List ℕ) → i + 1 < length piece → HeadsLast f after before (at + 1) (c ∷ h ∷ get_or piece (i + 1) 0 ∷ []) (i + 1)
          → Heads f after before at (c ∷ h ∷ []) (drop (i + 1) piece) i
      second_goes f after within told g =
          told g (drop (suc (i + 1)) piece)
          ∙ (sym (later_later i 1 _)
          ∙ (ap (later i) (second_on (reader_of before g) at room c h byte byte2 (settled ∙ hope) (get_or piece (i + 1) 0) (drop (suc (i + 1)) piece))
          ∙ ap (λ l. later i (headed_on (reader_of before g) at (c ∷ h ∷ []) l)) (sym (drop-cons piece (i + 1) 0 within))))

  -- the first byte
  module _ (c : ℕ) (piece : List ℕ) (b : Bool) (is_none : b ≡ no_frame at 17) where
    begun : hopeless (at - 0) (c ∷ []) ≡ b
    unfolding hopeless
    begun = sym (is_none ∙ ap₂ no_frame (sym (sub-zero at)) (sym (least_one c)))

    pub first_stops : b ≡ true → (f : Fed) (after : List ℕ) → Stops f after before at → Heads f after before at (c ∷ []) (drop 1 piece) 0
    first_stops e f after told g = told g ∙ heads_none (reader_of before g) at 0 (c ∷ []) (drop 1 piece) (begun ∙ e)

    module _ (hope : b ≡ false) (room : 4 ≤ length before) (byte : c < 256) where
      pub first_waits : (f : Fed) (after : List ℕ) (x : ℕ) → length piece ≤ 1 → f ≡ waiting_of 1 → x ≡ c → after ≡ numbers_as before (at + 1) x 0 1 → Heads f after before at (c ∷ []) (drop 1 piece) 0
      unfolding later
      first_waits f after x over q ex e g =
          ap (λ x. taken_of x after g) q
          ∙ ((λ j. taken_as ((ap (λ w. reader_of w g) (e ∙ ap (λ k. numbers_as before (at + 1) k 0 1) ex) ∙ as_become before g (at + 1) c 0 1 room) j) 1 waiting)
          ∙ (first_last (reader_of before g) at room c byte (begun ∙ hope)
          ∙ ap (λ l. headed_on (reader_of before g) at (c ∷ []) l) (sym (drop_of_length-le piece {i = 1} over))))

      pub first_goes : (f : Fed) (after : List ℕ) → 1 < length piece → Heads f after before (at + 1) (c ∷ get_or piece 1 0 ∷ []) (drop 2 piece) 1 → Heads f after before at (c ∷ []) (drop 1 piece) 0
      unfolding later
      first_goes f after within told g =
          told g
          ∙ (first_on (reader_of before g) at room c byte (begun ∙ hope) (get_or piece 1 0) (drop 2 piece)
          ∙ ap (λ l. headed_on (reader_of before g) at (c ∷ []) l) (sym (drop-cons piece 1 0 within)))
