-- What a byte leaves, for any reader: its lent memory stays long enough, a refusal is noted, an item uses one byte. Assumes nothing.
use Rattle.std.specs.Prelude.{ℕ, zero, suc, ◌+◌, ◌-◌, ◌≤◌, ◌<◌, ◌≡◌, refl, List, [], ◌∷◌, ◌++◌, Bool, true, false, cond, ltb, eqb, length, get_or}
use Rattle.std.proofs.Common.{sym, ◌∙◌, ap, arith, ltb-true, length-append}
use Rattle.std.proofs.Math.Option.{Option, none, some}
use Rattle.wire.specs.Bytes.{bytes_from}
use Rattle.init_layout.specs.Layout.{Init}
use Rattle.init_layout.specs.Reading.{count_at, ciphers_from, nonce_from, ciphers_at, first_that, Says, took, refused_with, Reading, refused_reading, with_cipher, taken_from}
use Rattle.frame_layout.specs.Layout.{next_offset}
use Rattle.frame_layout.specs.Calls.{read_header, length_in, outcome}
use Rattle.pieces_layout.specs.Reader.{Reader, State, heading, in_body, in_init, stopped, position_of, stage_of, state_of, test_of, moved, become, stored, is_init}
use Rattle.pieces_layout.specs.ReaderLaws.{Room}
use Rattle.pieces_layout.proofs.ReaderLaws.{state_become, position_become, room_become, room_moved, room_stored}
use Rattle.pieces_layout.specs.Step.{Item, header, body, init, waiting, item, Taken, taken_as, stop, hopeless, headed, bodied, settles, before_nonce, message_end, finished, gathering, by_state, after_byte}
use Rattle.pieces_layout.specs.ByteLaws.{Fine, Ten}

fine_cond : (b : Bool) (x y : Taken) → Fine x → Fine y → Fine (cond b x y)
fine_cond true x y p q = p
fine_cond false x y p q = q

-- the numbers that are noted
abbrev Number : ℕ → Type 0
Number n = cond (eqb n 8) 8 (cond (eqb n 10) 10 11) ≡ n

fine_stop : (r : Reader) (n : ℕ) → Number n → Room r → Fine (stop r n)
unfolding stop stage_of
fine_stop r n k h =
    record {
      room = room_become r (position_of r) n 0 6 h.four refl;
      ends =
          record {
            is = state_become r (position_of r) n 0 6 h.four ∙ ap stopped k;
            at = position_become r (position_of r) n 0 6 h.four;
            none_used = refl;
          };
    }

fine_on : (r : Reader) (p : ℕ) → Room r → Fine (taken_as (moved r p) 1 waiting)
fine_on r p h = record { room = room_moved r p h; ends = refl }

-- an item ends, and the next stage is no Init
fine_item : (r : Reader) (p a b n : ℕ) (x : Item) → Room r → is_init (stage_of n a b) ≡ false → Fine (taken_as (become r p a b n) 1 (item x))
fine_item r p a b n x h e = record { room = room_become r p a b n h.four e; ends = refl }

fine_headed : (r : Reader) (s : List ℕ) (b : ℕ) → Room r → Fine (headed r (s ++ (b ∷ [])))
unfolding headed stage_of
fine_headed r s b h = fine_cond (hopeless o p) (stop r 11) (cond (ltb (length p) 3) later whole) (fine_stop r 11 refl h) (go (ltb (length p) 3) refl)
  where
    p : List ℕ
    p = s ++ (b ∷ [])

    o : ℕ
    o = position_of r - (length p - 1)

    later : Taken
    later = taken_as (become r (position_of r + 1) (get_or p 0 0) (get_or p 1 0) (length p)) 1 waiting

    whole : Taken
    whole = taken_as (become r (position_of r + 1) (position_of r + 1) (next_offset o (length_in p)) 3) 1 (item (header (outcome (read_header p o))))

    seen : (n : ℕ) → n < 3 → 0 < n → (x y : ℕ) → is_init (stage_of n x y) ≡ false
    seen zero h k x y = absurd (omega arith)
    seen (suc zero) h k x y = refl
    seen (suc (suc zero)) h k x y = refl
    seen (suc (suc (suc n))) h k x y = absurd (omega arith)

    go : (t : Bool) → ltb (length p) 3 ≡ t → Fine (cond t later whole)
    go true e =
        record {
          room = room_become r (position_of r + 1) (get_or p 0 0) (get_or p 1 0) (length p) h.four (seen (length p) (ltb-true (length p) 3 e) (omega (arith, length-append s (b ∷ []))) (get_or p 0 0) (get_or p 1 0));
          ends = refl;
        }
    go false e = fine_item r (position_of r + 1) (position_of r + 1) (next_offset o (length_in p)) 3 (header (outcome (read_header p o))) h refl

fine_bodied : (r : Reader) (x y : ℕ) → Room r → Fine (bodied r x y)
unfolding bodied stage_of
fine_bodied r x y h =
    fine_cond (ltb (position_of r + 1) y) (taken_as (moved r (position_of r + 1)) 1 waiting) (taken_as (become r y 0 0 0) 1 (item (body x y)))
    (fine_on r (position_of r + 1) h) (fine_item r y 0 0 0 (body x y) h refl)

pub only_ten : (i : Init) (keys : ℕ) (test : ℕ → Bool) (g : List ℕ) (n : ℕ) → Ten (taken_from i keys test g n).says
unfolding taken_from with_cipher refused_reading
only_ten i keys test g n = go (first_that test (ciphers_at (count_at i g) g (ciphers_from i)))
  where
    go : (c : Option ℕ) → Ten (with_cipher c (count_at i g) n (bytes_from 32 g (nonce_from i (count_at i g))) (bytes_from keys g (nonce_from i (count_at i g) + 32))).says
    go none = refl
    go (some c) = tt

fine_finished : (i : Init) (keys : ℕ) (r : Reader) (x : Reading) → Ten x.says → Room r → Fine (finished i keys r x)
unfolding finished stage_of
fine_finished i keys r x ten h = go x.says ten
  where
    go : (v : Says) → Ten v → Fine (elim v [ took c count n ↦ taken_as (become r (message_end r.gathered) 0 0 0) 1 (item (init i keys x)) | refused_with n ↦ stop r n ])
    go (took c count n) e = fine_item r (message_end r.gathered) 0 0 0 (init i keys x) h refl
    go (refused_with n) e = fine_stop r n (ap (λ k. cond (eqb k 8) 8 (cond (eqb k 10) 10 11)) e ∙ sym e) h

fine_gathering : (i : Init) (keys : ℕ) (r : Reader) (n : ℕ) → Room r → Fine (gathering i keys r n)
unfolding gathering
fine_gathering i keys r n h = fine_cond (before_nonce i r.gathered n) early late
    (fine_cond (settles i keys r.gathered n) (stop r 8) onward (fine_stop r 8 refl h) (fine_on r (n + 1) h))
    (fine_cond (ltb (n + 1) (message_end r.gathered)) onward last (fine_on r (n + 1) h)
    (fine_finished i keys r (taken_from i keys (test_of i r) r.gathered (message_end r.gathered)) (only_ten i keys (test_of i r) r.gathered (message_end r.gathered)) h))
  where
    onward : Taken
    onward = taken_as (moved r (n + 1)) 1 waiting

    last : Taken
    last = finished i keys r (taken_from i keys (test_of i r) r.gathered (message_end r.gathered))

    early : Taken
    early = cond (settles i keys r.gathered n) (stop r 8) onward

    late : Taken
    late = cond (ltb (n + 1) (message_end r.gathered)) onward last

pub fine_byte : (r : Reader) (b : ℕ) → Room r → Fine (after_byte r b)
unfolding after_byte by_state
fine_byte r b h = go (state_of r) refl
  where
    go : (s : State) → state_of r ≡ s → Fine (by_state s r b)
    go (heading s) e = fine_headed r s b h
    go (in_body x y) e = fine_bodied r x y h
    go (in_init i keys) e = fine_gathering i keys (stored r (position_of r) b) (position_of r) (room_stored r (position_of r) b h)
    go (stopped n) e = record { room = h; ends = record { is = e; at = refl; none_used = refl } }
