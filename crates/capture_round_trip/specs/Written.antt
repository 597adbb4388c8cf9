-- Both round trips over the lent buffer: a capture that was written is read back, and a file that is read, written again, is the same bytes. Assumes nothing.
use Rattle.std.specs.Prelude.{ℕ, zero, suc, ◌+◌, ◌*◌, ◌-◌, ◌/◌, ◌%◌, ◌≤◌, ◌<◌, ◌≡◌, refl, List, [], ◌∷◌, ◌++◌, Bool, true, false, cond, not, ◌||◌, eqb, get_or, drop}
use Rattle.std.proofs.Math.Path.{sym, ap, ap₂}
use Rattle.std.proofs.Common.{◌∙◌, true≢false, add-zero, add-one, arith, length-drop, drop-drop}
use Rattle.std.proofs.Math.Option.{Option, none, some}
use borrow.Author.Tests.{le-ltb, eq-eqb, ltb-false, eqb-true, not-false}
use Rattle.std.proofs.Math.Dec.{ltb}
use Rattle.std.proofs.Math.ListN.{length, take}
use Rattle.wire.specs.Bytes.{Bytes, part, pasted}
use Rattle.wire.specs.ByteLaws.{length_part, part_pasted}
use Rattle.refusals.specs.Rows.{refusal}
use Rattle.eno.specs.Option.{Written, written_as, wrote, Writing}
use Rattle.eno.specs.Option as o
use Rattle.capture_layout.specs.Layout.{Handshake, handshake_with, bodies_of, joined, size_of, all_bodies, contents_size, file_of, most_file, most_handshakes, count_in, door_in, place_in, length_in, end_in, body_in, handshake_in, handshakes_from, handshakes_in}
use Rattle.capture_layout.specs.Checking.{any_from, or_else, end_before, expected, refused_first, refused_then, Checked, sound, refused_with, sound_unless, checked}
use Rattle.capture_layout.specs.CheckingLaws.{Laid}
use Rattle.capture_layout.proofs.CheckingLaws.{or_false, three_false, laid, body_is, body_length}
use Rattle.capture_layout.specs.Writing.{count_of, door_at, length_at, bodies_at, bodies_size, all_size, file_size, staged_at, staged_from, staged, is_wrong_count, is_no_door_at, is_long_area_at, unfit_from, writing_first, writing_then, written_unless, write_capture}
use Rattle.capture_layout.specs.Numbered.{any_of, number1, number2, number21, handshake_rows, staged_rows, lengths_of, sum}
use Rattle.capture_layout.proofs.Refusals.{then_rows}
use Rattle.capture_layout.proofs.WritingRefusals.{bodies_there, staged_rows_lem}
use Rattle.capture_round_trip.specs.Canonical.{length_from, laid_is_file}
use Rattle.capture_round_trip.specs.ReadBack.{length_joined, bodies_length, length_file, handshakes_of_file}

-- two refusals of which neither is one
pub none_of : (x y : Option ℕ) → or_else x y ≡ none → (x ≡ none) × (y ≡ none)
none_of none y e = (refl, e)
none_of (some n) y e = let z : ◌≡◌ {A = ℕ} 0 1 = cc in absurd (omega arith)

-- what was written, where nothing was refused
record Wrote (x : Option ℕ) (out file : List ℕ) (n : ℕ) : Type 0 where
  none_refused : x ≡ none
  all : n ≡ length file
  buffer : (written_unless x out file).buffer ≡ pasted out 0 file

wrote_is : (x : Option ℕ) (out file : List ℕ) (n : ℕ) → (written_unless x out file).says ≡ wrote n → Wrote x out file n
wrote_is none out file n e = record { none_refused = refl; all = let q : length file ≡ n = cc in sym q; buffer = refl }
wrote_is (some m) out file n e = let z : ◌≡◌ {A = ℕ} 0 1 = cc in absurd (omega arith)

-- four rows of which none applies, and three of them
four_false : (a b c d : Bool) → refusal ((a, 1) ∷ (b, 2) ∷ (c, 5) ∷ (d, 21) ∷ []) ≡ none → (a ≡ false) × (b ≡ false) × (c ≡ false) × (d ≡ false)
unfolding refusal
four_false true b c d e = let z : ◌≡◌ {A = ℕ} 0 1 = cc in absurd (omega arith)
four_false false true c d e = let z : ◌≡◌ {A = ℕ} 0 1 = cc in absurd (omega arith)
four_false false false true d e = let z : ◌≡◌ {A = ℕ} 0 1 = cc in absurd (omega arith)
four_false false false false true e = let z : ◌≡◌ {A = ℕ} 0 1 = cc in absurd (omega arith)
four_false false false false false e = (refl, refl, refl, refl)

-- the staged handshakes: how many there are, and how many bytes their bodies have
length_staged : (e s : List ℕ) (n i at : ℕ) → length (staged_from e s n i at) ≡ n
unfolding staged_from
length_staged e s zero i at = refl
length_staged e s (suc n) i at = ap suc (length_staged e s n (i + 1) (at + bodies_at e i))

staged_size : (e s : List ℕ) (i at : ℕ) → at + bodies_at e i ≤ length s → size_of (staged_at e s i at) ≡ bodies_at e i
unfolding size_of staged_at bodies_at
staged_size e s i at h =
    let a = length_part at (length_at e i 0) s (omega arith) in
    let b = length_part (at + length_at e i 0) (length_at e i 1) s (omega arith) in
    let c = length_part (at + length_at e i 0 + length_at e i 1) (length_at e i 2) s (omega arith) in
    let d = length_part (at + length_at e i 0 + length_at e i 1 + length_at e i 2) (length_at e i 3) s (omega arith) in
    omega arith

no_bodies : length (all_bodies []) ≡ 0
unfolding all_bodies
no_bodies = refl

staged_bodies : (e s : List ℕ) (n i at : ℕ) → at + bodies_size e n i ≤ length s → length (all_bodies (staged_from e s n i at)) ≡ bodies_size e n i
unfolding staged_from bodies_size
staged_bodies e s zero i at h = no_bodies
staged_bodies e s (suc n) i at h =
    let again = staged_bodies e s n (i + 1) (at + bodies_at e i) (omega arith) in
    let one = staged_size e s i at (omega arith) in
    bodies_length (staged_at e s i at) (staged_from e s n (i + 1) (at + bodies_at e i)) ∙ ap₂ (λ x y. x + y) one again

-- a capture that was written: 18 to 20 and the rows of handshakes do not apply
module _ (e s out : List ℕ) (n : ℕ) (w : (write_capture e s out).says ≡ wrote n) where
  written : Wrote (or_else (writing_first e s) (writing_then e s (length out))) out (file_of (staged e s)) n
  unfolding write_capture
  written = wrote_is (or_else (writing_first e s) (writing_then e s (length out))) out (file_of (staged e s)) n w

  first_none : writing_first e s ≡ none
  first_none = (none_of (writing_first e s) (writing_then e s (length out)) written.none_refused).0

  then_none : refusal (staged_rows e s out) ≡ none
  then_none = sym (staged_rows_lem e s out first_none) ∙ (none_of (writing_first e s) (writing_then e s (length out)) written.none_refused).1

  sized : (count_of e ≤ most_handshakes) × (file_size e ≤ most_file)
  unfolding writing_first is_wrong_count
  sized =
      let t = three_false (is_wrong_count e) (ltb (length s) (all_size e)) (ltb (all_size e) (length s)) 18 19 20 first_none in
      let a = or_false (not (eqb (length e % 5) 0)) (ltb most_handshakes (count_of e) || ltb most_file (file_size e)) t.0 in
      let b = or_false (ltb most_handshakes (count_of e)) (ltb most_file (file_size e)) a.1 in
      (ltb-false most_handshakes (count_of e) b.0, ltb-false most_file (file_size e) b.1)

  file_length : length (file_of (staged e s)) ≡ file_size e
  unfolding file_size staged all_size
  file_length =
      let there : 0 + bodies_size e (count_of e) 0 ≤ length s = omega (arith, bodies_there e s first_none) in
      length_file (staged_from e s (count_of e) 0 0) ∙ ap₂ (λ x y. contents_size x + y) (length_staged e s (count_of e) 0 0) (staged_bodies e s (count_of e) 0 0 there)

  read_again : (refused_first (file_of (staged e s)) ≡ none) × (handshakes_in (file_of (staged e s)) ≡ staged e s)
  unfolding staged
  read_again =
      let c = length_staged e s (count_of e) 0 0 in
      let h = sized.0 in
      let k = sized.1 in
      handshakes_of_file (staged e s) (omega arith) (omega (arith, file_length))

  no_row : refused_then (file_of (staged e s)) ≡ none
  unfolding staged_rows handshake_rows refusal
  no_row =
      let f = file_of (staged e s) in
      let l = staged e s in
      let t = four_false (any_of number1 l) (any_of number2 l) (ltb (length out) (2 + 33 * (length e / 5) + sum (lengths_of e (length e / 5) 0))) (any_of number21 l) then_none in
      then_rows f (laid f read_again.0) ∙ (ap (λ x. refusal (handshake_rows x)) read_again.1 ∙ (λ j. refusal ((t.0 j, 1) ∷ (t.1 j, 2) ∷ (t.3 j, 21) ∷ [])))

  room : length (file_of (staged e s)) ≤ length out
  unfolding writing_then
  room =
      let t = (none_of (writing_first e s) (writing_then e s (length out)) written.none_refused).1 in
      let r = four_false (any_from (is_no_door_at e) (count_of e) 0) (any_from (is_long_area_at e) (count_of e) 0) (ltb (length out) (file_size e)) (unfit_from e s (count_of e) 0 0) t in
      omega (arith, file_length, ltb-false (length out) (file_size e) r.2)

  taken : take n (write_capture e s out).buffer ≡ file_of (staged e s)
  unfolding write_capture part
  taken = ap₂ (λ k l. take k l) written.all written.buffer ∙ part_pasted out 0 (file_of (staged e s)) (omega (arith, room))

  count_there : count_in (file_of (staged e s)) ≡ length (staged e s)
  unfolding handshakes_in
  count_there = sym (length_from (file_of (staged e s)) (count_in (file_of (staged e s))) 0) ∙ ap length read_again.1

  -- the bytes that a writer wrote are sound, and their handshakes are those that were to be written
  pub capture_read_back : (checked (take n (write_capture e s out).buffer) ≡ sound (length (staged e s))) × (handshakes_in (take n (write_capture e s out).buffer) ≡ staged e s)
  unfolding checked
  capture_read_back =
      let f = file_of (staged e s) in (
        ap checked taken ∙ ((λ j. sound_unless (or_else (read_again.0 j) (no_row j)) (count_in f)) ∙ ap sound count_there),
        ap handshakes_in taken ∙ read_again.1,
      )
