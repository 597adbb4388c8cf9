-- The ways through the steps on an Init message, as the code goes them. Assumes nothing.
use Rattle.std.specs.Prelude.{ℕ, ◌+◌, ◌*◌, ◌≤◌, ◌<◌, ◌≡◌, refl, List, [], ◌∷◌, Bool, true, false, cond, ltb, eqb, length, get_or, set, drop}
use Rattle.std.proofs.Math.Path.{sym, ap}
use Rattle.std.proofs.Common.{◌∙◌, add-zero, add-one, arith, length-set, drop_of_length-le, drop-cons}
use Rattle.std.proofs.Math.Option.{Option, none, some}
use borrow.Author.Tests.{lt-ltb, le-ltb, eq-eqb, ne_eqb}
use Rattle.wire.specs.Bytes.{bytes_from}
use Rattle.eno.specs.Tep.{key_length}
use Rattle.init_layout.specs.Layout.{Init, init1, init2}
use Rattle.init_layout.specs.Reading.{length_at, count_at, ciphers_from, nonce_from, refused_reading, with_cipher, taken_from}
use Rattle.pieces_layout.specs.Reader.{reader_of, numbers_n, gathered_n, own_from, in_init, position_of, first_of, second_of, stage_of, state_of, moved, no_room}
use Rattle.pieces_layout.specs.Step.{waiting, item, refused, short, taken_as, settles, message_end, fed_on, fed}
use Rattle.pieces_layout.specs.Answers.{init_seen, taken_of}
use Rattle.pieces_layout.specs.declared.PieceSays.TheVariants as s
use Rattle.pieces_layout.specs.declared.Fed.{Fed}
use Rattle.pieces_cipher.specs.Choosing.{chosen_in, chosen_is}
use Rattle.pieces_steps.specs.Kinds.{kind_of}
use Rattle.pieces_steps.specs.Numbers.{numbers_as}
use Rattle.pieces_steps.specs.NumberLaws.{as_become, moved_still}
use Rattle.pieces_steps.specs.Later.{waiting_of, later}
use Rattle.pieces_steps.specs.LaterLaws.{later_later, later_waits, later_refused}
use Rattle.pieces_init.specs.Gathering.{stored_in, finished_as, finished_at, Reads, fed_init}
use Rattle.pieces_init.specs.GatherLaws.{came_to, stored_low, gather_on, gather_stops}
use Rattle.pieces_init.specs.RunLaws.{reads_kept, came_still}

-- where the nonce begins, and where the message ends
pub nonce_two : (two : Bool) (g : List ℕ) → two ≡ true → (10 ≡ nonce_from (kind_of two) (count_at (kind_of two) g)) × (10 < 520)
unfolding nonce_from count_at ciphers_from
nonce_two two g e = (ap (λ t. nonce_from (kind_of t) (count_at (kind_of t) g)) (sym e), omega arith)

pub nonce_one : (two : Bool) (g : List ℕ) (count : ℕ) → two ≡ false → count ≡ get_or g 8 1 → count < 256 → (9 + 2 * count ≡ nonce_from (kind_of two) (count_at (kind_of two) g)) × (9 + 2 * count < 520)
unfolding nonce_from count_at ciphers_from
nonce_one two g count e q h = (ap (λ k. 9 + 2 * k) q ∙ ap (λ t. nonce_from (kind_of t) (count_at (kind_of t) g)) (sym e), omega arith)

pub end_far : (g : List ℕ) (n : ℕ) → n ≡ length_at g → 4096 < n → (4096 ≡ message_end g) × (4096 ≤ 4096)
unfolding message_end own_from
end_far g n e h = (sym (ap (λ b. cond b 4096 n) (lt-ltb 4096 n h)) ∙ ap (λ k. cond (ltb 4096 k) 4096 k) e, omega arith)

pub end_near : (g : List ℕ) (n : ℕ) → n ≡ length_at g → n ≤ 4096 → (n ≡ message_end g) × (n ≤ 4096)
unfolding message_end own_from
end_near g n e h = (sym (ap (λ b. cond b 4096 n) (le-ltb 4096 n h)) ∙ ap (λ k. cond (ltb 4096 k) 4096 k) e, h)

-- the TEP that a number names
pub tep_high : (n : ℕ) → 255 < n → key_length 0 ≡ key_length n
unfolding key_length
tep_high n h = rw (ne_eqb n 0x23 (λ e. omega arith), ne_eqb n 0x24 (λ e. omega arith))

-- a message that is whole
module _ (two : Bool) (tep : ℕ) (w g : List ℕ) (end last used : ℕ) where
  chosen : (x : Option ℕ) → x ≡ chosen_in two (get_or w 2 0) g → finished_at (kind_of two) (key_length tep) (reader_of w g) end last used ≡ finished_as (kind_of two) (key_length tep) (reader_of w g) end last used
      (with_cipher x (count_at (kind_of two) g) end (bytes_from 32 g (nonce_from (kind_of two) (count_at (kind_of two) g))) (bytes_from (key_length tep) g (nonce_from (kind_of two) (count_at (kind_of two) g) + 32)))
  unfolding finished_at taken_from second_of
  chosen x e =
      ap (λ y. finished_as (kind_of two) (key_length tep) (reader_of w g) end last used (with_cipher y (count_at (kind_of two) g) end (bytes_from 32 g (nonce_from (kind_of two) (count_at (kind_of two) g))) (bytes_from (key_length tep) g (nonce_from (kind_of two) (count_at (kind_of two) g) + 32))))
      (sym (e ∙ chosen_is two (reader_of w g)))

  module _ (room : 4 ≤ length w) (after : List ℕ) where
    pub finish_none : none ≡ chosen_in two (get_or w 2 0) g → after ≡ numbers_as w last 10 0 6
        → taken_of (record { used = 0; says = s.NoCommonCipher last }) after g ≡ finished_at (kind_of two) (key_length tep) (reader_of w g) end last used
    unfolding with_cipher finished_as refused_reading
    finish_none e q = ap (λ r. taken_as r 0 (refused 10 last)) (ap (λ v. reader_of v g) q ∙ as_become w g last 10 0 6 room) ∙ sym (chosen none e)

    took_as : (c : ℕ) → some c ≡ chosen_in two (get_or w 2 0) g → after ≡ numbers_as w end 0 0 0
        → taken_as (reader_of after g) used (item (init_seen (kind_of two) c (count_at (kind_of two) g) end (key_length tep) g)) ≡ finished_at (kind_of two) (key_length tep) (reader_of w g) end last used
    unfolding with_cipher finished_as
    took_as c e q =
        ap (λ r. taken_as r used (item (init_seen (kind_of two) c (count_at (kind_of two) g) end (key_length tep) g))) (ap (λ v. reader_of v g) q ∙ as_become w g end 0 0 0 room) ∙ sym (chosen (some c) e)

    pub finish_two : (c keys : ℕ) → two ≡ true → some c ≡ chosen_in two (get_or w 2 0) g → keys ≡ key_length tep → after ≡ numbers_as w end 0 0 0
        → taken_of (record { used = used; says = s.Init2 c end keys }) after g ≡ finished_at (kind_of two) (key_length tep) (reader_of w g) end last used
    unfolding count_at
    finish_two c keys t e k q =
        ap (λ x. taken_as (reader_of after g) used (item (init_seen init2 c 1 end x g))) k
        ∙ (ap (λ b. taken_as (reader_of after g) used (item (init_seen (kind_of b) c (count_at (kind_of b) g) end (key_length tep) g))) (sym t) ∙ took_as c e q)

    pub finish_one : (c keys count : ℕ) → two ≡ false → some c ≡ chosen_in two (get_or w 2 0) g → keys ≡ key_length tep → count ≡ get_or g 8 1 → after ≡ numbers_as w end 0 0 0
        → taken_of (record { used = used; says = s.Init1 c count end keys }) after g ≡ finished_at (kind_of two) (key_length tep) (reader_of w g) end last used
    unfolding count_at
    finish_one c keys count t e k n q =
        (λ i. taken_as (reader_of after g) used (item (init_seen init1 c (n i) end (k i) g)))
        ∙ (ap (λ b. taken_as (reader_of after g) used (item (init_seen (kind_of b) c (count_at (kind_of b) g) end (key_length tep) g))) (sym t) ∙ took_as c e q)

-- the loop: i bytes are gathered, and the reader has come to place n
pub record Gathered (two : Bool) (tep : ℕ) (w₀ g₀ piece w g : List ℕ) (n i : ℕ) : Type 0 where
  pub within : i ≤ length piece
  pub long_numbers : length w ≡ length w₀
  pub long : length g ≡ length g₀
  pub reads : Reads two tep w g
  pub rest : fed_on (reader_of w₀ g₀) piece ≡ later i (fed_on (came_to w n g) (drop i piece))

pub gathered_start : (two : Bool) (tep : ℕ) (w g piece : List ℕ) (n : ℕ) → Reads two tep w g → get_or w 0 0 ≡ n → Gathered two tep w g piece w g n 0
unfolding later position_of
gathered_start two tep w g piece n r e =
    record { within = omega arith; long_numbers = refl; long = refl; reads = r; rest = ap (λ x. fed_on x piece) (sym (ap (moved (reader_of w g)) (sym e) ∙ moved_still (reader_of w g))) }

module _ (two : Bool) (tep : ℕ) (w₀ g₀ piece w g : List ℕ) (n i : ℕ) (so_far : Gathered two tep w₀ g₀ piece w g n i) where
  pub gathered_all : length piece ≤ i → (f : Fed) → f ≡ waiting_of i → taken_of f (set w 0 n) g ≡ fed_on (reader_of w₀ g₀) piece
  unfolding moved
  gathered_all h f e =
      ap (λ x. taken_of x (set w 0 n) g) e
      ∙ sym (so_far.rest
      ∙ (ap (λ l. later i (fed_on (came_to w n g) l)) (drop_of_length-le piece {i = i} h)
      ∙ (ap (later i) (came_still two tep w g n so_far.reads) ∙ (later_waits i (came_to w n g) 0 ∙ ap (λ k. taken_as (came_to w n g) k waiting) (add-zero i)))))

  pub gathered_rest : (f : Fed) (after x : List ℕ) → taken_of f after x ≡ later i (fed_on (came_to w n g) (drop i piece)) → taken_of f after x ≡ fed_on (reader_of w₀ g₀) piece
  gathered_rest f after x e = e ∙ sym so_far.rest

  module _ (more : i < length piece) (early : n < nonce_from (kind_of two) (count_at (kind_of two) g)) (low : n < 520) where
    next_byte : drop i piece ≡ get_or piece i 0 ∷ drop (i + 1) piece
    next_byte = drop-cons piece i 0 more ∙ ap (λ k. get_or piece i 0 ∷ drop k piece) (sym (add-one i))

    stored_is : stored_in g n (get_or piece i 0) ≡ set g n (get_or piece i 0)
    stored_is = stored_low g n (get_or piece i 0) (omega arith)

    pub gathered_stops : (b : Bool) → b ≡ settles (kind_of two) (key_length tep) (set g n (get_or piece i 0)) n → b ≡ true → (after : List ℕ) → after ≡ numbers_as w n 8 0 6
        → taken_of (record { used = 0; says = s.Unreadable n }) after (set g n (get_or piece i 0)) ≡ fed_on (reader_of w₀ g₀) piece
    gathered_stops b e t after q =
        (λ j. taken_as (reader_of (q j) (sym stored_is j)) 0 (refused 8 n))
        ∙ (ap (λ r. taken_as r 0 (refused 8 n)) (as_become w (stored_in g n (get_or piece i 0)) n 8 0 6 so_far.reads.four)
        ∙ (sym (later_refused i _ 8 n)
        ∙ (ap (later i) (gather_stops two tep w g so_far.reads n (get_or piece i 0) (drop (i + 1) piece) early (ap (λ x. settles (kind_of two) (key_length tep) x n) stored_is ∙ (sym e ∙ t)) ∙ ap (fed_on (came_to w n g)) (sym next_byte))
        ∙ sym so_far.rest)))

    pub gathered_next : (b : Bool) → b ≡ settles (kind_of two) (key_length tep) (set g n (get_or piece i 0)) n → b ≡ false → Gathered two tep w₀ g₀ piece w (set g n (get_or piece i 0)) (n + 1) (i + 1)
    gathered_next b e t = record {
      within = omega arith;
      long_numbers = so_far.long_numbers;
      long = length-set g n (get_or piece i 0) ∙ so_far.long;
      reads = reads_kept two tep w g (set g n (get_or piece i 0)) so_far.reads (length-set g n (get_or piece i 0));
      rest =
          so_far.rest
          ∙ (ap (later i) (ap (fed_on (came_to w n g)) next_byte ∙ gather_on two tep w g so_far.reads n (get_or piece i 0) (drop (i + 1) piece) early (ap (λ x. settles (kind_of two) (key_length tep) x n) stored_is ∙ (sym e ∙ t)))
          ∙ (later_later i 1 _ ∙ ap (λ x. later (i + 1) (fed_on (came_to w (n + 1) x) (drop (i + 1) piece))) stored_is));
    }

-- the stage
module _ (w g p : List ℕ) where
  few : (v : List ℕ) → length v < 4 → get_or v 3 0 ≡ 0
  few [] h = refl
  few (x ∷ []) h = refl
  few (x ∷ y ∷ []) h = refl
  few (x ∷ y ∷ z ∷ []) h = refl
  few (x ∷ y ∷ z ∷ u ∷ v) h = absurd (omega arith)

  module _ (two : Bool) (stage : ℕ) (is-stage : eqb (get_or w 3 0) stage ≡ false → taken_as (reader_of w g) 0 waiting ≡ fed_init two (reader_of w g) p) where
    pub other_stage : (f : Fed) → f ≡ waiting_of 0 → (get_or w 3 0 ≡ stage → ⊥) → taken_of f w g ≡ fed_init two (reader_of w g) p
    other_stage f e d = ap (λ x. taken_of x w g) e ∙ is-stage (ne_eqb (get_or w 3 0) stage d)

    pub no_stage : (f : Fed) → f ≡ waiting_of 0 → length w < 4 → (0 ≡ stage → ⊥) → taken_of f w g ≡ fed_init two (reader_of w g) p
    no_stage f e h d = other_stage f e (λ q. d (sym (few w h) ∙ q))

  pub other_one : eqb (get_or w 3 0) 4 ≡ false → taken_as (reader_of w g) 0 waiting ≡ fed_init false (reader_of w g) p
  unfolding fed_init
  other_one e = rw e

  pub other_two : eqb (get_or w 3 0) 5 ≡ false → taken_as (reader_of w g) 0 waiting ≡ fed_init true (reader_of w g) p
  unfolding fed_init
  other_two e = rw e

  module _ (room : 4 ≤ length w) where
    narrow_is : (i : Init) (keys : ℕ) → state_of (reader_of w g) ≡ in_init i keys → length g < 4608 → taken_as (reader_of w g) 0 short ≡ fed (reader_of w g) p
    unfolding fed no_room numbers_n gathered_n
    narrow_is i keys e h = rw (le-ltb (length w) 4 room, e, lt-ltb (length g) 4608 h)

    wide_is : (i : Init) (keys : ℕ) → state_of (reader_of w g) ≡ in_init i keys → 4608 ≤ length g → fed_on (reader_of w g) p ≡ fed (reader_of w g) p
    unfolding fed no_room numbers_n gathered_n
    wide_is i keys e h = rw (le-ltb (length w) 4 room, e, le-ltb (length g) 4608 h)

    state_one : get_or w 3 0 ≡ 4 → state_of (reader_of w g) ≡ in_init init1 (key_length (get_or w 1 0))
    unfolding state_of stage_of first_of second_of
    state_one e = ap (λ n. stage_of n (get_or w 1 0) (get_or w 2 0)) e

    state_two : get_or w 3 0 ≡ 5 → state_of (reader_of w g) ≡ in_init init2 (key_length (get_or w 1 0))
    unfolding state_of stage_of first_of second_of
    state_two e = ap (λ n. stage_of n (get_or w 1 0) (get_or w 2 0)) e

    at_one : get_or w 3 0 ≡ 4 → fed (reader_of w g) p ≡ fed_init false (reader_of w g) p
    unfolding fed_init
    at_one e = rw (eq-eqb (get_or w 3 0) 4 e)

    at_two : get_or w 3 0 ≡ 5 → fed (reader_of w g) p ≡ fed_init true (reader_of w g) p
    unfolding fed_init
    at_two e = rw (eq-eqb (get_or w 3 0) 5 e)

    pub one_narrow : get_or w 3 0 ≡ 4 → length g < 4608 → taken_as (reader_of w g) 0 short ≡ fed_init false (reader_of w g) p
    one_narrow e h = narrow_is init1 (key_length (get_or w 1 0)) (state_one e) h ∙ at_one e

    pub two_narrow : get_or w 3 0 ≡ 5 → length g < 4608 → taken_as (reader_of w g) 0 short ≡ fed_init true (reader_of w g) p
    two_narrow e h = narrow_is init2 (key_length (get_or w 1 0)) (state_two e) h ∙ at_two e

    module _ (tep : ℕ) (is_tep : key_length tep ≡ key_length (get_or w 1 0)) (wide : 4608 ≤ length g) where
      pub one_reads : get_or w 3 0 ≡ 4 → Reads false tep w g
      one_reads e = record { four = room; wide = wide; state = state_one e ∙ ap (in_init init1) (sym is_tep) }

      pub two_reads : get_or w 3 0 ≡ 5 → Reads true tep w g
      two_reads e = record { four = room; wide = wide; state = state_two e ∙ ap (in_init init2) (sym is_tep) }

    pub one_fed : get_or w 3 0 ≡ 4 → 4608 ≤ length g → fed_on (reader_of w g) p ≡ fed_init false (reader_of w g) p
    one_fed e h = wide_is init1 (key_length (get_or w 1 0)) (state_one e) h ∙ at_one e

    pub two_fed : get_or w 3 0 ≡ 5 → 4608 ≤ length g → fed_on (reader_of w g) p ≡ fed_init true (reader_of w g) p
    two_fed e h = wide_is init2 (key_length (get_or w 1 0)) (state_two e) h ∙ at_two e
