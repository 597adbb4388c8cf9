-- A reader that was started, and any pieces of bytes: what is told, where, and how it ends is what the one-shot readers make of the whole stream. Assumes nothing.
use Rattle.std.specs.Prelude.{ℕ, suc, ◌+◌, ◌*◌, ◌-◌, ◌≤◌, ◌<◌, ◌≡◌, Bool, true, false, ◌||◌, ltb, eqb}
use Rattle.std.proofs.Math.Path.{refl, sym, ap, subst}
use Rattle.std.proofs.Common.{◌∙◌, true≢false, arith, length-append}
use mathlib.Core.List.{List, [], ◌∷◌, ◌++◌}
use Rattle.std.proofs.Math.Bool.{cond, not}
use Rattle.std.proofs.lemmas.Bool.{false≢true}
use Rattle.std.proofs.Math.Option.{Option, none, some}
use borrow.Author.Tests.{ltb-false}
use Rattle.std.proofs.Math.ListN.{length}
use Rattle.wire.specs.Bytes.{Bytes, pasted, part}
use Rattle.wire.specs.ByteLaws.{bytes_from_part, part_pasted, length_pasted}
use Rattle.refusals.specs.Rows.{refusal}
use Rattle.eno.specs.Tep.{key_length}
use Rattle.init_layout.specs.Layout.{Init, init1, init2, cipher_bytes, Ciphers}
use Rattle.init_layout.proofs.LayoutLaws.{length_ciphers}
use Rattle.init_layout.proofs.FieldLaws.{ciphers_back}
use Rattle.init_layout.specs.Reading.{Standing, unreadable, incomplete, whole, standing_of, is_enabled, in_init1, ciphers_at, Says, took, refused_with, Reading, reading, read_for, read_init1, read_init2}
use Rattle.init_layout.proofs.VoidLaws.{or_false}
use Rattle.init_layout.specs.declared.Enabled.{Enabled}
use Rattle.pieces_layout.specs.Reader.{Reader, reader_of, numbers_n, gathered_n, own_from, in_init, position_of, stage_of, enabled_in, bits_of, own_in, test_of, become, is_init, no_room}
use Rattle.pieces_layout.proofs.ReaderLaws.{has_room, long_become, state_become, position_become, second_become}
use Rattle.pieces_layout.specs.Step.{init, item, Taken, taken_as, stop, message_end, finished, gathering}
use Rattle.pieces_layout.specs.Starts.{Start, for_init1, for_init2, for_frames, Begun, is_unfit, no_room_for, fresh, unless, start}
use Rattle.pieces_layout.proofs.StartLaws.{start_fresh}
use Rattle.pieces_layout.specs.ByteLaws.{Ten}
use Rattle.pieces_layout.specs.Run.{run, joined}
use Rattle.pieces_layout.specs.Each.{noting, each}
use Rattle.pieces_layout.proofs.CutLaws.{run_each}
use Rattle.pieces_layout.specs.Stream.{waits, stops, ending, reporting, Opening, not_yet, settled, opening, frames_in, is_nine, init_decided, init_in, parse, parsed_by}
use Rattle.pieces_layout.proofs.OpeningLaws.{Onward, Met, Opened, opened}
use Rattle.pieces_layout.proofs.StandingSnocLaws.{none_yet, says_eight, says_nine, says_ten}
use Rattle.pieces_layout.specs.FrameStreamLaws.{Heads}
use Rattle.pieces_layout.proofs.FrameStreamLaws.{parsed_quiet, parsed_item, stop_told, parsed_stop, frames_each}
use Rattle.pieces_layout.specs.InitStreamLaws.{Gathers}
use Rattle.pieces_layout.proofs.InitStreamLaws.{later, held, onward, Comes, comes, byte_is, gathers_on, position_stored, long_numbers}
use Rattle.pieces_layout.specs.AsOneShot.{after_init, opened_init, StartedAs}

pub init_open : (i : Init) (keys : ℕ) (read : List ℕ → Reading) (s : List ℕ) → init_in i keys read s ≡ opened_init i keys read s (opening (init_decided read) [] s)
unfolding init_in opened_init after_init
init_open i keys read s = refl

-- an Init message, where `read` is its one-shot reader
module _ (i : Init) (keys : ℕ) (test : ℕ → Bool) (read : List ℕ → Reading) (reads : (p : List ℕ) → read p ≡ reading i keys test p) where
  -- whether it wants more
  decided_says : (p : List ℕ) (v : Says) → (reading i keys test p).says ≡ v → init_decided read p ≡ not (is_nine v)
  unfolding init_decided
  decided_says p v e = ap (λ (x : Reading). not (is_nine x.says)) (reads p) ∙ ap (λ x. not (is_nine x)) e

  decided_ten : (v : Says) → Ten v → not (is_nine v) ≡ true
  decided_ten (took c count n) e = refl
  decided_ten (refused_with n) e = ap (λ x. not (eqb x 9)) e

  undecided : (p : List ℕ) → init_decided read p ≡ false → standing_of i keys p ≡ incomplete
  undecided p e = go (standing_of i keys p) refl
    where
      go : (s : Standing) → standing_of i keys p ≡ s → s ≡ incomplete
      go unreadable f = absurd (false≢true (sym e ∙ decided_says p (refused_with 8) (says_eight i keys test p f)))
      go incomplete f = refl
      go (whole n) f = absurd (false≢true (sym e ∙ (decided_says p (reading i keys test p).says refl ∙ decided_ten (reading i keys test p).says (says_ten i keys test p n f))))

  decided_not : (p : List ℕ) → init_decided read p ≡ true → standing_of i keys p ≡ incomplete → ⊥
  decided_not p e f = true≢false (sym e ∙ decided_says p (refused_with 9) (says_nine i keys test p f))

  init_onward : (p : List ℕ) (r : Reader) (b : ℕ) → Gathers i keys test p r → b < 256 → init_decided read (p ++ (b ∷ [])) ≡ false → Onward (init_decided read) (Gathers i keys test) p r b
  init_onward p r b h y e =
      let s = undecided (p ++ (b ∷ [])) e in
      let c : gathering i keys (later i keys test p r b h y) (length p) ≡ onward i keys test p r b h y = subst (Comes i keys test p r b h y) s (comes i keys test p r b h y) in
      let t = byte_is i keys test p r b h y ∙ c in
      record {
        waits = ap (λ (v : Taken). v.told) t;
        next = subst (Gathers i keys test (p ++ (b ∷ []))) (sym (ap (λ (v : Taken). v.reader) t)) (gathers_on i keys test p r b h y s);
      }

  module _ (s : List ℕ) (r : Reader) (q l : List ℕ) (m : Met (init_decided read) (Gathers i keys test) [] s r q l) where
    abbrev p : List ℕ
    p = m.before

    abbrev x : Reader
    x = m.reader

    abbrev b : ℕ
    b = m.byte

    abbrev y : Reader
    y = later i keys test p x b m.took m.small

    one_more : length q ≡ length p + 1
    one_more = ap length m.is ∙ length-append p (b ∷ [])

    four : 4 ≤ length y.numbers
    four = omega (arith, long_numbers x (length p) b, m.took.four)

    place : position_of y ≡ length q - 1
    place = position_stored x (length p) b ∙ (m.took.at ∙ omega (arith, one_more))

    told_as : (t : Taken) → gathering i keys y (length p) ≡ t → parsed_by (each r s) ≡ parsed_by (noting t.told t.reader (each t.reader l))
    told_as t e = ap parsed_by (m.comes_to ∙ ap (λ (v : Taken). noting v.told v.reader (each v.reader l)) (byte_is i keys test p x b m.took m.small ∙ e))

    stops_at : (n : ℕ) → cond (eqb n 8) 8 (cond (eqb n 10) 10 11) ≡ n → gathering i keys y (length p) ≡ stop y n → parsed_by (each r s) ≡ ending (stops n (length q - 1))
    stops_at n k e = told_as (stop y n) e ∙ (stop_told y n l ∙ (parsed_stop y n l four k ∙ ap (λ z. ending (stops n z)) place))

    -- a whole message
    finishes : message_end (held i keys test p x b m.took m.small) ≡ length q → (v : Says) → (reading i keys test q).says ≡ v → Ten v
        → gathering i keys y (length p) ≡ finished i keys y (reading i keys test q) → parsed_by (each r s) ≡ after_init i keys read q l v
    unfolding finished after_init stage_of noting
    finishes end (refused_with n) e ten g =
        stops_at n (ap (λ k. cond (eqb k 8) 8 (cond (eqb k 10) 10 11)) ten ∙ sym ten) (g ∙ (rw e))
    finishes end (took c count n) e ten g =
        let u = init i keys (reading i keys test q) in
        let z = become y (length q) 0 0 0 in
        let t : gathering i keys y (length p) ≡ taken_as z 1 (item u) = g ∙ ((rw e) ∙ ap (λ k. taken_as (become y k 0 0 0) 1 (item u)) end) in
        let heads : Heads (length q) [] z =
        record {
          four = omega (arith, long_become y (length q) 0 0 0, four);
          is = state_become y (length q) 0 0 0 four;
          at = position_become y (length q) 0 0 0 four ∙ omega arith;
          few = omega arith;
          bytes = tt;
        } in
        told_as (taken_as z 1 (item u)) t
        ∙ (parsed_item u z (length q) (each z l) (frames_in (suc (length l)) (length q) l) (position_become y (length q) 0 0 0 four) (frames_each (suc (length l)) (length q) l z heads m.rest_bytes (omega arith))
        ∙ ap (λ w. reporting (init i keys w) (length q) (frames_in (suc (length l)) (length q) l)) (sym (reads q)))

    init_parsed : (w : Standing) → standing_of i keys q ≡ w → Comes i keys test p x b m.took m.small w → parsed_by (each r s) ≡ after_init i keys read q l (reading i keys test q).says
    unfolding after_init
    init_parsed unreadable e c = stops_at 8 refl c ∙ ap (after_init i keys read q l) (sym (says_eight i keys test q e))
    init_parsed incomplete e c = absurd (decided_not q m.holds e)
    init_parsed (whole n) e c = finishes (c.1 ∙ ap length (sym m.is)) (reading i keys test q).says refl (says_ten i keys test q n e) (c.0 ∙ ap (λ z. finished i keys y (reading i keys test z)) (sym m.is))

  init_opened : (s : List ℕ) (r : Reader) (v : Opening) → Opened (init_decided read) (Gathers i keys test) [] s r v → parsed_by (each r s) ≡ opened_init i keys read s v
  unfolding opened_init
  init_opened s r not_yet m = parsed_quiet (each r s) (in_init i keys) (length s) m.quiet m.took_all.is m.took_all.at
  init_opened s r (settled q l) m =
      let c = subst (λ z. Comes i keys test m.before m.reader m.byte m.took m.small (standing_of i keys z)) (sym m.is) (comes i keys test m.before m.reader m.byte m.took m.small) in
      init_parsed s r q l m (standing_of i keys q) refl c ∙ ap (λ (x : Reading). after_init i keys read q l x.says) (sym (reads q))

  pub init_each : (s : List ℕ) (r : Reader) → Gathers i keys test [] r → Bytes s → parsed_by (each r s) ≡ init_in i keys read s
  init_each s r h y = init_opened s r (opening (init_decided read) [] s) (opened (init_decided read) (Gathers i keys test) init_onward s [] r h y) ∙ sym (init_open i keys read s)

-- a start that is not refused
fit : (a b : Bool) → refusal ((a, 3) ∷ (b, 5) ∷ []) ≡ none → (a ≡ false) × (b ≡ false)
unfolding refusal
fit true b e = let z : ◌≡◌ {A = ℕ} 0 1 = cc in absurd (omega arith)
fit false true e = let z : ◌≡◌ {A = ℕ} 0 1 = cc in absurd (omega arith)
fit false false e = (refl, refl)

not_refused : (c : Start) (r : Reader) → (start c r).refused_by ≡ none → (is_unfit c ≡ false) × (no_room_for c r ≡ false)
unfolding start unless
not_refused c r e = fit (is_unfit c) (no_room_for c r) (go (refusal ((is_unfit c, 3) ∷ (no_room_for c r, 5) ∷ [])) e)
  where
    go : (t : Option ℕ) → (unless t r (fresh c r)).refused_by ≡ none → t ≡ none
    go none e = refl
    go (some n) e = let z : ◌≡◌ {A = ℕ} 0 1 = cc in absurd (omega arith)

module _ (c : Start) (r : Reader) (h : StartedAs c r) where
  none_refused : (start c h.before).refused_by ≡ none
  none_refused = ap (λ (x : Begun). x.refused_by) h.started

  is_fresh_lem : r ≡ fresh c h.before
  is_fresh_lem = sym (ap (λ (x : Begun). x.reader) h.started) ∙ start_fresh c h.before none_refused

-- B's bits are read back, and A's list
abbrev enabled_as : Bool → Bool → Bool → Enabled
enabled_as a b c = record { aes128 = a; aes256 = b; chacha20 = c }

bits_back : (a b c : Bool) → enabled_in (bits_of (enabled_as a b c)) ≡ enabled_as a b c
unfolding enabled_in bits_of
bits_back true true true = refl
bits_back true true false = refl
bits_back true false true = refl
bits_back true false false = refl
bits_back false true true = refl
bits_back false true false = refl
bits_back false false true = refl
bits_back false false false = refl

enabled_back : (e : Enabled) → enabled_in (bits_of e) ≡ e
enabled_back e = bits_back e.aes128 e.aes256 e.chacha20

own_back : (own g : List ℕ) → Ciphers own → length own ≤ 255 → gathered_n ≤ length g → ciphers_at (length own) (pasted g own_from (cipher_bytes own)) own_from ≡ own
unfolding gathered_n own_from
own_back own g c few h =
    let n = length_ciphers own in
    let m = length_pasted g 4096 (cipher_bytes own) in
    ciphers_back own (pasted g 4096 (cipher_bytes own)) 4096 c
    (bytes_from_part (2 * length own) (pasted g 4096 (cipher_bytes own)) 4096 (omega arith)
    ∙ (ap (λ k. part 4096 k (pasted g 4096 (cipher_bytes own))) (sym n) ∙ part_pasted g 4096 (cipher_bytes own) (omega arith)))

-- the reader waits for the first byte
fresh_gathers : (i : Init) (keys : ℕ) (test : ℕ → Bool) (x : Reader) (a b n : ℕ) → 4 ≤ length x.numbers → no_room (become x 0 a b n) ≡ false
    → stage_of n a b ≡ in_init i keys → test_of i (become x 0 a b n) ≡ test → Gathers i keys test [] (become x 0 a b n)
fresh_gathers i keys test x a b n h m e f =
    let is = state_become x 0 a b n h ∙ e in
    record {
      four = omega (arith, long_become x 0 a b n);
      wide = (has_room (become x 0 a b n) m).wide (ap is_init is);
      is = is;
      at = position_become x 0 a b n h;
      stands = refl;
      wants = none_yet i keys;
      takes = f;
      bytes = tt;
    }

module _ (t : ℕ) (enabled : Enabled) (r : Reader) (h : StartedAs (for_init1 t enabled) r) where
  abbrev c1 : Start
  c1 = for_init1 t enabled

  four1 : 4 ≤ length h.before.numbers
  unfolding no_room_for numbers_n
  four1 = ltb-false (length h.before.numbers) 4 (not_refused c1 h.before (none_refused c1 r h)).1

  test1 : test_of init1 (become h.before 0 t (bits_of enabled) 4) ≡ is_enabled enabled
  unfolding test_of
  test1 = ap (λ n. is_enabled (enabled_in n)) (second_become h.before 0 t (bits_of enabled) 4 four1) ∙ ap (λ e. is_enabled e) (enabled_back enabled)

  gathers1 : Gathers init1 (key_length t) (is_enabled enabled) [] r
  unfolding fresh stage_of
  gathers1 =
      let e = is_fresh_lem c1 r h in
      subst (Gathers init1 (key_length t) (is_enabled enabled) []) (sym e)
      (fresh_gathers init1 (key_length t) (is_enabled enabled) h.before t (bits_of enabled) 4 four1 (ap no_room (sym e) ∙ h.room) refl test1)

  reads1 : (p : List ℕ) → read_init1 t enabled p ≡ reading init1 (key_length t) (is_enabled enabled) p
  unfolding read_init1 read_for is_unfit
  reads1 p = rw (not_refused (for_init1 t enabled) h.before (none_refused (for_init1 t enabled) r h)).0

module _ (t : ℕ) (own : List ℕ) (r : Reader) (h : StartedAs (for_init2 t own) r) where
  abbrev c2 : Start
  c2 = for_init2 t own

  abbrev x2 : Reader
  x2 = reader_of h.before.numbers (pasted h.before.gathered own_from (cipher_bytes own))

  long2 : (4 ≤ length h.before.numbers) × (gathered_n ≤ length h.before.gathered)
  unfolding no_room_for numbers_n
  long2 =
      let f = or_false (ltb (length h.before.numbers) 4) (ltb (length h.before.gathered) gathered_n) (not_refused c2 h.before (none_refused c2 r h)).1 in
      (ltb-false (length h.before.numbers) 4 f.0, ltb-false (length h.before.gathered) gathered_n f.1)

  fit2 : (eqb (key_length t) 0 ≡ false) × (ltb 255 (length own) ≡ false)
  unfolding is_unfit
  fit2 = or_false (eqb (key_length t) 0) (ltb 255 (length own)) (not_refused c2 h.before (none_refused c2 r h)).0

  test2 : test_of init2 (become x2 0 t (length own) 5) ≡ in_init1 own
  unfolding test_of own_in become
  test2 =
      ap (λ n. in_init1 (ciphers_at (cond (ltb 255 n) 255 n) x2.gathered own_from)) (second_become x2 0 t (length own) 5 long2.0)
      ∙ ap in_init1 ((rw fit2.1) ∙ own_back own h.before.gathered h.ciphers (ltb-false 255 (length own) fit2.1) long2.1)

  gathers2 : Gathers init2 (key_length t) (in_init1 own) [] r
  unfolding fresh stage_of
  gathers2 =
      let e = is_fresh_lem c2 r h in
      subst (Gathers init2 (key_length t) (in_init1 own) []) (sym e)
      (fresh_gathers init2 (key_length t) (in_init1 own) x2 t (length own) 5 long2.0 (ap no_room (sym e) ∙ h.room) refl test2)

  reads2 : (p : List ℕ) → read_init2 t own p ≡ reading init2 (key_length t) (in_init1 own) p
  unfolding read_init2 read_for
  reads2 p = rw (fit2.1, fit2.0)

heads3 : (r : Reader) → StartedAs for_frames r → Heads 0 [] r
unfolding fresh stage_of no_room_for numbers_n
heads3 r h =
    let e = is_fresh_lem for_frames r h in
    let x = h.before in
    let four = ltb-false (length x.numbers) 4 (not_refused for_frames x (none_refused for_frames r h)).1 in
    subst (Heads 0 []) (sym e)
    (record {
      four = omega (arith, long_become x 0 0 0 0);
      is = state_become x 0 0 0 0 four;
      at = position_become x 0 0 0 0 four;
      few = omega arith;
      bytes = tt;
    })

parse_each : (c : Start) (r : Reader) → StartedAs c r → (s : List ℕ) → Bytes s → parsed_by (each r s) ≡ parse c s
unfolding parse
parse_each (for_init1 t enabled) r h s y = init_each init1 (key_length t) (is_enabled enabled) (read_init1 t enabled) (reads1 t enabled r h) s r (gathers1 t enabled r h) y
parse_each (for_init2 t own) r h s y = init_each init2 (key_length t) (in_init1 own) (read_init2 t own) (reads2 t own r h) s r (gathers2 t own r h) y
parse_each for_frames r h s y = frames_each (suc (length s)) 0 s r (heads3 r h) y (omega arith)

-- pieces of any lengths come to what the one-shot readers make of the whole stream
pub as_one_shot : (c : Start) (r : Reader) → StartedAs c r → (ps : List (List ℕ)) → Bytes (joined ps) → parsed_by (run r ps) ≡ parse c (joined ps)
as_one_shot c r h ps y = ap parsed_by (run_each ps r (has_room r h.room)) ∙ parse_each c r h (joined ps) y
