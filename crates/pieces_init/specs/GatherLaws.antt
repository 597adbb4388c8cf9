-- Laws of one byte of an Init message: it is refused, waited behind, or finishes the message. Assumes nothing.
use Rattle.std.specs.Prelude.{ℕ, ◌+◌, ◌≤◌, ◌<◌, ◌≡◌, refl, List, ◌∷◌, Bool, true, false, cond, ◌||◌, ltb, length, get_or, set}
use Rattle.std.proofs.Math.Path.{sym, ap}
use Rattle.std.proofs.Common.{◌∙◌, ap₂, arith, length-set, get_or-set_other}
use borrow.Author.Tests.{lt-ltb, le-ltb, ltb-false}
use Rattle.wire.specs.Bytes.{bytes_from}
use Rattle.wire.specs.Number.{number_at}
use Rattle.eno.specs.Tep.{key_length}
use Rattle.init_layout.specs.Layout.{Init, init1, init2}
use Rattle.init_layout.specs.Reading.{length_at, count_at, ciphers_from, nonce_from, Says, took, refused_with, Reading, taken_from, is_enabled, in_init1, ciphers_at}
use Rattle.pieces_layout.specs.Reader.{Reader, reader_of, own_from, second_of, enabled_in, own_in, test_of, moved, become, stored}
use Rattle.pieces_layout.specs.Step.{init, waiting, item, refused, Taken, taken_as, stop, before_nonce, settles, message_end, finished, gathering, go_on, by_state, after_byte, fed_on}
use Rattle.pieces_steps.specs.Kinds.{kind_of}
use Rattle.pieces_steps.specs.Later.{later}
use Rattle.pieces_steps.specs.LaterLaws.{on_later, later_item, later_refused}
use Rattle.pieces_steps.specs.NumberLaws.{become_moved, moved_moved, position_moved, state_moved}
use Rattle.pieces_init.specs.Gathering.{stored_in, finished_as, finished_at, Reads}

-- the reader that has come to place n
abbrev pub came_to : (w : List ℕ) (n : ℕ) (g : List ℕ) → Reader
came_to w n g = moved (reader_of w g) n

-- a byte that is gathered
pub stored_low : (g : List ℕ) (n b : ℕ) → n < 4096 → stored_in g n b ≡ set g n b
unfolding stored_in own_from
stored_low g n b h = rw (lt-ltb n 4096 h)

pub stored_high : (g : List ℕ) (n b : ℕ) → 4096 ≤ n → g ≡ stored_in g n b
unfolding stored_in own_from
stored_high g n b h = rw (le-ltb n 4096 h)

pub length_stored : (g : List ℕ) (n b : ℕ) → length (stored_in g n b) ≡ length g
unfolding stored_in
length_stored g n b = go (ltb n own_from)
  where
    go : (t : Bool) → length (cond t (set g n b) g) ≡ length g
    go true = length-set g n b
    go false = refl

stored_other : (g : List ℕ) (n b j d : ℕ) → j < n → get_or (stored_in g n b) j d ≡ get_or g j d
unfolding stored_in
stored_other g n b j d h = go (ltb n own_from)
  where
    go : (t : Bool) → get_or (cond t (set g n b) g) j d ≡ get_or g j d
    go true = get_or-set_other g n j b d (λ e. omega arith)
    go false = refl

-- what stands before it reads as before
count_kept : (i : Init) (g : List ℕ) (n b : ℕ) → 8 < n → count_at i (stored_in g n b) ≡ count_at i g
unfolding count_at
count_kept init1 g n b h = stored_other g n b 8 1 h
count_kept init2 g n b h = refl

length_kept : (g : List ℕ) (n b : ℕ) → 8 < n → length_at (stored_in g n b) ≡ length_at g
unfolding length_at number_at bytes_from
length_kept g n b h = rw (stored_other g n b 4 0 (omega arith), stored_other g n b 5 0 (omega arith), stored_other g n b 6 0 (omega arith), stored_other g n b 7 0 (omega arith))

pub end_kept : (g : List ℕ) (n b : ℕ) → 8 < n → message_end (stored_in g n b) ≡ message_end g
unfolding message_end
end_kept g n b h = ap (λ k. cond (ltb own_from k) own_from k) (length_kept g n b h)

-- before the nonce and behind it
pub behind_eight : (i : Init) (g : List ℕ) (n : ℕ) → nonce_from i (count_at i g) ≤ n → 8 < n
unfolding nonce_from ciphers_from count_at
behind_eight init1 g n h = omega arith
behind_eight init2 g n h = omega arith

pub nonce_kept : (i : Init) (g : List ℕ) (n b : ℕ) → 8 < n → nonce_from i (count_at i (stored_in g n b)) ≡ nonce_from i (count_at i g)
nonce_kept i g n b h = ap (nonce_from i) (count_kept i g n b h)

or_true : (b : Bool) → (b || true) ≡ true
or_true true = refl
or_true false = refl

before_one : (g : List ℕ) (n b : ℕ) → n < nonce_from init1 (count_at init1 g) → before_nonce init1 (stored_in g n b) n ≡ true
unfolding before_nonce ciphers_from
before_one g n b h = go (ltb n 9) refl
  where
    late : 9 ≤ n → ltb n (nonce_from init1 (count_at init1 (stored_in g n b))) ≡ true
    late q = ap (ltb n) (nonce_kept init1 g n b (omega arith)) ∙ lt-ltb n (nonce_from init1 (count_at init1 g)) h

    go : (t : Bool) → ltb n 9 ≡ t → (ltb n 9 || ltb n (nonce_from init1 (count_at init1 (stored_in g n b)))) ≡ true
    go true e = ap (λ x. x || ltb n (nonce_from init1 (count_at init1 (stored_in g n b)))) e
    go false e = ap (λ x. ltb n 9 || x) (late (ltb-false n 9 e)) ∙ or_true (ltb n 9)

before_two : (g : List ℕ) (n b : ℕ) → n < nonce_from init2 (count_at init2 g) → before_nonce init2 (stored_in g n b) n ≡ true
unfolding before_nonce count_at
before_two g n b h = ap (λ x. ltb n (ciphers_from init2) || x) (lt-ltb n (nonce_from init2 1) h) ∙ or_true (ltb n (ciphers_from init2))

before_is : (i : Init) (g : List ℕ) (n b : ℕ) → n < nonce_from i (count_at i g) → before_nonce i (stored_in g n b) n ≡ true
before_is init1 g n b h = before_one g n b h
before_is init2 g n b h = before_two g n b h

behind_ciphers : (i : Init) (count n : ℕ) → nonce_from i count ≤ n → ciphers_from i ≤ n
unfolding nonce_from
behind_ciphers i count n p = omega arith

behind_is : (i : Init) (g : List ℕ) (n b : ℕ) → nonce_from i (count_at i g) ≤ n → before_nonce i (stored_in g n b) n ≡ false
unfolding before_nonce
behind_is i g n b h =
    let q = nonce_kept i g n b (behind_eight i g n h) in
    ap₂ (λ x y. x || y) (le-ltb n (ciphers_from i) (behind_ciphers i (count_at i g) n h)) (le-ltb n (nonce_from i (count_at i (stored_in g n b))) (omega (arith, q)))

-- the ciphers that are taken do not hang on the position
test_moved : (i : Init) (r : Reader) (n : ℕ) → test_of i (moved r n) ≡ test_of i r
unfolding test_of moved own_in second_of
test_moved init1 r n = ap (λ k. is_enabled (enabled_in k)) (get_or-set_other r.numbers 0 2 n 0 (λ e. omega arith))
test_moved init2 r n = ap (λ k. in_init1 (ciphers_at (cond (ltb 255 k) 255 k) r.gathered own_from)) (get_or-set_other r.numbers 0 2 n 0 (λ e. omega arith))

-- a message that is whole
pub later_finished : (k : ℕ) (i : Init) (keys : ℕ) (r : Reader) (end last used : ℕ) → later k (finished_at i keys r end last used) ≡ finished_at i keys r end last (k + used)
unfolding finished_at finished_as
later_finished k i keys r end last used = go (taken_from i keys (test_of i r) r.gathered end).says
  where
    x : Reading
    x = taken_from i keys (test_of i r) r.gathered end

    go : (v : Says)
        → later k (elim v [ took c count n ↦ taken_as (become r end 0 0 0) used (item (init i keys x)) | refused_with m ↦ taken_as (become r last m 0 6) 0 (refused m last) ])
        ≡ elim v [ took c count n ↦ taken_as (become r end 0 0 0) (k + used) (item (init i keys x)) | refused_with m ↦ taken_as (become r last m 0 6) 0 (refused m last) ]
    go (took c count n) = later_item k (become r end 0 0 0) used (init i keys x)
    go (refused_with m) = later_refused k (become r last m 0 6) m last

finish_on : (i : Init) (keys : ℕ) (r : Reader) → 4 ≤ length r.numbers → (n : ℕ) (next : Reader → Taken) (x : Reading)
    → go_on (finished i keys (moved r n) x) next ≡ finished_as i keys r (message_end r.gathered) n 1 x
unfolding finished finished_as go_on stop moved
finish_on i keys r four n next x = go x.says
  where
    go : (v : Says)
        → go_on (elim v [ took c count m ↦ taken_as (become (moved r n) (message_end r.gathered) 0 0 0) 1 (item (init i keys x)) | refused_with m ↦ stop (moved r n) m ]) next
        ≡ elim v [ took c count m ↦ taken_as (become r (message_end r.gathered) 0 0 0) 1 (item (init i keys x)) | refused_with m ↦ taken_as (become r n m 0 6) 0 (refused m n) ]
    go (took c count m) = ap (λ y. taken_as y 1 (item (init i keys x))) (become_moved r n (message_end r.gathered) 0 0 0)
    go (refused_with m) =
        let p = position_moved r four n in
        λ j. taken_as ((ap (λ k. become (moved r n) k m 0 6) p ∙ become_moved r n n m 0 6) j) 0 (refused m (p j))

module _ (two : Bool) (tep : ℕ) (w g : List ℕ) (reads : Reads two tep w g) (n b : ℕ) (l : List ℕ) where
  byte_on : fed_on (came_to w n g) (b ∷ l) ≡ go_on (gathering (kind_of two) (key_length tep) (came_to w n (stored_in g n b)) n) (λ x. fed_on x l)
  unfolding fed_on after_byte by_state stored stored_in moved
  byte_on =
      ap (λ s. go_on (by_state s (came_to w n g) b) (λ x. fed_on x l)) (state_moved (reader_of w g) n ∙ reads.state)
      ∙ ap (λ p. go_on (gathering (kind_of two) (key_length tep) (stored (came_to w n g) p b) p) (λ x. fed_on x l)) (position_moved (reader_of w g) reads.four n)

  waits_on : go_on (taken_as (moved (came_to w n (stored_in g n b)) (n + 1)) 1 waiting) (λ x. fed_on x l) ≡ later 1 (fed_on (came_to w (n + 1) (stored_in g n b)) l)
  waits_on = on_later (moved (came_to w n (stored_in g n b)) (n + 1)) (λ x. fed_on x l) ∙ ap (λ r. later 1 (fed_on r l)) (moved_moved (reader_of w (stored_in g n b)) n (n + 1))

  -- before the nonce
  module _ (early : n < nonce_from (kind_of two) (count_at (kind_of two) g)) where
    step_on_lem : settles (kind_of two) (key_length tep) (stored_in g n b) n ≡ false → gathering (kind_of two) (key_length tep) (came_to w n (stored_in g n b)) n ≡ taken_as (moved (came_to w n (stored_in g n b)) (n + 1)) 1 waiting
    unfolding gathering moved
    step_on_lem e = rw (before_is (kind_of two) g n b early, e)

    step_stops : settles (kind_of two) (key_length tep) (stored_in g n b) n ≡ true → gathering (kind_of two) (key_length tep) (came_to w n (stored_in g n b)) n ≡ stop (came_to w n (stored_in g n b)) 8
    unfolding gathering moved
    step_stops e = rw (before_is (kind_of two) g n b early, e)

    stop_at : stop (came_to w n (stored_in g n b)) 8 ≡ taken_as (become (reader_of w (stored_in g n b)) n 8 0 6) 0 (refused 8 n)
    unfolding stop
    stop_at =
        let p = position_moved (reader_of w (stored_in g n b)) reads.four n in
        λ j. taken_as ((ap (λ k. become (came_to w n (stored_in g n b)) k 8 0 6) p ∙ become_moved (reader_of w (stored_in g n b)) n n 8 0 6) j) 0 (refused 8 (p j))

    pub gather_on : settles (kind_of two) (key_length tep) (stored_in g n b) n ≡ false → fed_on (came_to w n g) (b ∷ l) ≡ later 1 (fed_on (came_to w (n + 1) (stored_in g n b)) l)
    gather_on e = byte_on ∙ (ap (λ t. go_on t (λ x. fed_on x l)) (step_on_lem e) ∙ waits_on)

    pub gather_stops : settles (kind_of two) (key_length tep) (stored_in g n b) n ≡ true → taken_as (become (reader_of w (stored_in g n b)) n 8 0 6) 0 (refused 8 n) ≡ fed_on (came_to w n g) (b ∷ l)
    unfolding go_on
    gather_stops e = sym (byte_on ∙ ap (λ t. go_on t (λ x. fed_on x l)) (step_stops e ∙ stop_at))

  -- behind it
  module _ (late : nonce_from (kind_of two) (count_at (kind_of two) g) ≤ n) where
    kept : message_end (stored_in g n b) ≡ message_end g
    kept = end_kept g n b (behind_eight (kind_of two) g n late)

    step_behind : n + 1 < message_end g → gathering (kind_of two) (key_length tep) (came_to w n (stored_in g n b)) n ≡ taken_as (moved (came_to w n (stored_in g n b)) (n + 1)) 1 waiting
    unfolding gathering moved
    step_behind h = rw (behind_is (kind_of two) g n b late, ap (ltb (n + 1)) kept ∙ lt-ltb (n + 1) (message_end g) h)

    step_ends : message_end g ≤ n + 1
        → gathering (kind_of two) (key_length tep) (came_to w n (stored_in g n b)) n
        ≡ finished (kind_of two) (key_length tep) (came_to w n (stored_in g n b)) (taken_from (kind_of two) (key_length tep) (test_of (kind_of two) (came_to w n (stored_in g n b))) (stored_in g n b) (message_end (stored_in g n b)))
    unfolding gathering moved
    step_ends h = rw (behind_is (kind_of two) g n b late, ap (ltb (n + 1)) kept ∙ le-ltb (n + 1) (message_end g) h)

    pub behind_on : n + 1 < message_end g → fed_on (came_to w n g) (b ∷ l) ≡ later 1 (fed_on (came_to w (n + 1) (stored_in g n b)) l)
    behind_on h = byte_on ∙ (ap (λ t. go_on t (λ x. fed_on x l)) (step_behind h) ∙ waits_on)

    same_end : finished_as (kind_of two) (key_length tep) (reader_of w (stored_in g n b)) (message_end (stored_in g n b)) n 1 (taken_from (kind_of two) (key_length tep) (test_of (kind_of two) (came_to w n (stored_in g n b))) (stored_in g n b) (message_end (stored_in g n b)))
        ≡ finished_at (kind_of two) (key_length tep) (reader_of w (stored_in g n b)) (message_end g) n 1
    unfolding finished_at
    same_end =
        λ j. finished_as (kind_of two) (key_length tep) (reader_of w (stored_in g n b)) (kept j) n 1 (taken_from (kind_of two) (key_length tep) (test_moved (kind_of two) (reader_of w (stored_in g n b)) n j) (stored_in g n b) (kept j))

    pub behind_ends : message_end g ≤ n + 1 → fed_on (came_to w n g) (b ∷ l) ≡ finished_at (kind_of two) (key_length tep) (reader_of w (stored_in g n b)) (message_end g) n 1
    behind_ends h =
        byte_on
        ∙ (ap (λ t. go_on t (λ x. fed_on x l)) (step_ends h)
        ∙ (finish_on (kind_of two) (key_length tep) (reader_of w (stored_in g n b)) reads.four n (λ x. fed_on x l) (taken_from (kind_of two) (key_length tep) (test_of (kind_of two) (came_to w n (stored_in g n b))) (stored_in g n b) (message_end (stored_in g n b)))
        ∙ same_end))
