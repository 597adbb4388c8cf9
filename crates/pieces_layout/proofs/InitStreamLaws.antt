-- An Init message, byte by byte, beside its one-shot reader. Assumes nothing.
use Prim.Native.Nat.{ℕ, zero, suc, ◌+◌, ◌*◌, ◌-◌, ◌%◌, ◌≤◌, ◌<◌}
use Rattle.std.specs.Prelude.{◌≡◌, refl, List, [], ◌∷◌, ◌++◌, Bool, ◌&&◌, ◌||◌, get_or, set, drop}
use Rattle.std.proofs.Math.Path.{sym, ap, subst}
use Rattle.std.proofs.Common.{◌∙◌, ap₂, length-append, length-set, take-append-drop, take-suc-set, get_or-set_other}
use Rattle.std.proofs.Math.Bool.{true, false, cond}
use Rattle.std.proofs.Math.Decide.{dec_lt}
use native.Mathlib.Omega.{arith}
use borrow.Author.Tests.{lt-ltb, le-ltb}
use Rattle.std.proofs.Math.Dec.{ltb, eqb}
use Rattle.std.proofs.Math.ListN.{length, take}
use Rattle.wire.specs.Bytes.{Bytes, bytes_from}
use Rattle.wire.specs.Number.{number, number_after, number_at}
use Rattle.init_layout.specs.Layout.{Init, init1, init2, most_length}
use Rattle.init_layout.proofs.FieldLaws.{number_settled}
use Rattle.init_layout.specs.Reading.{length_at, count_at, ciphers_from, nonce_from, Standing, unreadable, incomplete, whole, standing_of, is_enabled, in_init1, ciphers_at, taken_from, reading}
use Rattle.init_layout.proofs.VoidLaws.{from_eight}
use Rattle.init_layout.proofs.StandingOfLaws.{of_incomplete, whole_of}
use Rattle.init_layout.proofs.ContinuingLaws.{bytes_both, length_settled}
use Rattle.pieces_layout.specs.Reader.{Reader, gathered_n, own_from, position_of, first_of, second_of, state_of, enabled_in, own_in, test_of, moved, stored}
use Rattle.pieces_layout.proofs.ReaderLaws.{state_moved, second_moved, position_moved, long_stored}
use Rattle.pieces_layout.specs.Step.{waiting, Taken, taken_as, stop, before_nonce, settles, message_end, finished, gathering, by_state, after_byte}
use Rattle.pieces_layout.proofs.VoidSnocLaws.{void_finishes}
use Rattle.pieces_layout.proofs.StandingSnocLaws.{wants_more, short_yet, whole_long, count_kept, same_length, among, behind_more, behind_whole, taken_as_read}
use Rattle.pieces_layout.specs.InitStreamLaws.{Gathers}

-- bytes that are gathered leave A's list as it is
two_bytes : (p : List ℕ) (i : ℕ) → number_at 2 p i ≡ get_or p i 0 * 256 + get_or p (i + 1) 0
unfolding number_at number number_after bytes_from
two_bytes p i = omega arith

number_beside : (g : List ℕ) (n b k : ℕ) → n < k → number_at 2 (set g n b) k ≡ number_at 2 g k
number_beside g n b k h =
    two_bytes (set g n b) k
    ∙ (ap₂ (λ x y. x * 256 + y) (get_or-set_other g n k b 0 (λ e. omega arith)) (get_or-set_other g n (k + 1) b 0 (λ e. omega arith)) ∙ sym (two_bytes g k))

ciphers_beside : (c : ℕ) (g : List ℕ) (n b k : ℕ) → n < k → ciphers_at c (set g n b) k ≡ ciphers_at c g k
unfolding ciphers_at
ciphers_beside zero g n b k h = refl
ciphers_beside (suc c) g n b k h = ap₂ (λ x l. x ∷ l) (number_beside g n b k h) (ciphers_beside c g n b (k + 2) (omega arith))

gathered_at : (r : Reader) (n b : ℕ) → n < 4096 → (stored r n b).gathered ≡ set r.gathered n b
unfolding stored own_from
gathered_at r n b h = ap (λ t. cond t (set r.gathered n b) r.gathered) (lt-ltb n 4096 h)

own_kept : (r : Reader) (n b : ℕ) → n < 4096 → own_in (stored r n b) ≡ own_in r
unfolding own_in second_of stored own_from
own_kept r n b h =
    let c = cond (ltb 255 (get_or r.numbers 2 0)) 255 (get_or r.numbers 2 0) in
    ap (λ t. ciphers_at c (cond t (set r.gathered n b) r.gathered) 4096) (lt-ltb n 4096 h) ∙ ciphers_beside c r.gathered n b 4096 h

-- the test stays the same
test_stored : (i : Init) (r : Reader) (n b : ℕ) → n < 4096 → test_of i (stored r n b) ≡ test_of i r
unfolding test_of second_of stored
test_stored init1 r n b h = refl
test_stored init2 r n b h = ap in_init1 (own_kept r n b h)

test_moved : (i : Init) (r : Reader) (m : ℕ) → test_of i (moved r m) ≡ test_of i r
unfolding test_of own_in moved
test_moved init1 r m = ap (λ x. is_enabled (enabled_in x)) (second_moved r m)
test_moved init2 r m = ap (λ x. in_init1 (ciphers_at (cond (ltb 255 x) 255 x) r.gathered own_from)) (second_moved r m)

state_stored : (r : Reader) (n b : ℕ) → state_of (stored r n b) ≡ state_of r
unfolding state_of first_of second_of stored
state_stored r n b = refl

pub long_numbers : (r : Reader) (n b : ℕ) → length (stored r n b).numbers ≡ length r.numbers
unfolding stored
long_numbers r n b = refl

long_moved : (r : Reader) (m : ℕ) → length (moved r m).numbers ≡ length r.numbers
unfolding moved
long_moved r m = length-set r.numbers 0 m

pub position_stored : (r : Reader) (n b : ℕ) → position_of (stored r n b) ≡ position_of r
unfolding position_of stored
position_stored r n b = refl

-- one byte more
module _ (i : Init) (keys : ℕ) (test : ℕ → Bool) (p : List ℕ) (r : Reader) (b : ℕ) (h : Gathers i keys test p r) (small : b < 256) where
  abbrev pub now_hand : List ℕ
  now_hand = p ++ (b ∷ [])

  abbrev pub later : Reader
  later = stored r (length p) b

  abbrev pub held : List ℕ
  held = later.gathered

  abbrev behind : List ℕ
  behind = drop (suc (length p)) held

  one_more : length now_hand ≡ length p + 1
  one_more = length-append p (b ∷ [])

  short : length p < 4096
  short = short_yet i keys p h.wants

  pub now_bytes : Bytes now_hand
  now_bytes = bytes_both p (b ∷ []) h.bytes (small, tt)

  -- the bytes at hand stand at the beginning of those gathered
  stands_now : take (suc (length p)) held ≡ now_hand
  unfolding gathered_n
  stands_now = ap (take (suc (length p))) (gathered_at r (length p) b short) ∙ (take-suc-set r.gathered (length p) b (omega (arith, short, h.wide)) ∙ ap (λ l. l ++ (b ∷ [])) h.stands)

  held_is : held ≡ now_hand ++ behind
  held_is = sym (take-append-drop (suc (length p)) held) ∙ ap (λ l. l ++ behind) stands_now

  takes_now : test_of i later ≡ test
  takes_now = test_stored i r (length p) b short ∙ h.takes

  pub byte_is : after_byte r b ≡ gathering i keys later (length p)
  unfolding after_byte by_state
  byte_is = ap (λ s. by_state s r b) h.is ∙ ap (λ n. gathering i keys (stored r n b) n) h.at

  abbrev pub onward : Taken
  onward = taken_as (moved later (length p + 1)) 1 waiting

  -- what it comes to, by how the bytes at hand stand
  abbrev pub Comes : Standing → Type 0
  Comes unreadable = gathering i keys later (length p) ≡ stop later 8
  Comes incomplete = gathering i keys later (length p) ≡ onward
  Comes (whole n) = (gathering i keys later (length p) ≡ finished i keys later (reading i keys test now_hand)) × (message_end held ≡ length now_hand)

  -- before the ciphers the one-shot reader decides
  in_head : length p < ciphers_from i → (s : Standing) → standing_of i keys now_hand ≡ s → Comes s
  unfolding gathering before_nonce settles nonce_from
  in_head k unreadable e = rw (lt-ltb (length p) (ciphers_from i) k, stands_now, e)
  in_head k incomplete e = rw (lt-ltb (length p) (ciphers_from i) k, stands_now, e)
  in_head k (whole n) e = absurd (omega (arith, whole_long i keys now_hand n e, one_more))

  module _ (begun : ciphers_from i ≤ length p) where
    count_held : count_at i held ≡ count_at i p
    count_held =
        ap (count_at i) held_is ∙ (count_kept i now_hand behind (omega (arith, one_more)) ∙ count_kept i p (b ∷ []) begun)

    -- among them the pair that the byte finishes
    pair_held : ciphers_from i < length p → number_at 2 held (length p - 1) ≡ number_at 2 now_hand (length p - 1)
    pair_held k = ap (λ l. number_at 2 l (length p - 1)) held_is ∙ number_settled 2 (length p - 1) now_hand behind (omega (arith, one_more))

    settles_is : settles i keys held (length p) ≡ void_finishes p b (ciphers_from i)
    unfolding settles void_finishes
    settles_is = rw (le-ltb (length p) (ciphers_from i) begun) (elim (dec_lt (ciphers_from i) (length p)) [
      | yes k ↦ ap (λ x. eqb ((length p - ciphers_from i) % 2) 1 && eqb x 0) (pair_held k)
      | no k ↦ let z : (length p - ciphers_from i) % 2 ≡ 0 = omega arith in rw z
    ])

    within_list : length p < nonce_from i (count_at i p) → before_nonce i held (length p) ≡ true
    unfolding before_nonce
    within_list k =
        rw (le-ltb (length p) (ciphers_from i) begun) (ap (λ n. ltb (length p) (nonce_from i n)) count_held ∙ lt-ltb (length p) (nonce_from i (count_at i p)) k)

    behind_list : nonce_from i (count_at i p) ≤ length p → before_nonce i held (length p) ≡ false
    unfolding before_nonce
    behind_list k =
        rw (le-ltb (length p) (ciphers_from i) begun) (ap (λ n. ltb (length p) (nonce_from i n)) count_held ∙ le-ltb (length p) (nonce_from i (count_at i p)) k)

    among_comes : length p < nonce_from i (count_at i p) → Comes (standing_of i keys now_hand)
    unfolding gathering
    among_comes k = subst Comes (sym (among i keys p b begun h.wants k)) (go (void_finishes p b (ciphers_from i)) refl)
      where
        go : (t : Bool) → void_finishes p b (ciphers_from i) ≡ t → Comes (cond t unreadable incomplete)
        go true e = rw (within_list k, settles_is, e)
        go false e = rw (within_list k, settles_is, e)

    -- behind them the length
    end_held : message_end held ≡ length_at p
    unfolding message_end own_from most_length
    end_held =
        let l : length_at held ≡ length_at p = ap length_at held_is ∙ (length_settled now_hand behind (omega (arith, one_more, from_eight i)) ∙ same_length i keys p b begun h.wants) in
        let m = (of_incomplete i keys p h.wants).0.fields.most in
        ap (λ n. cond (ltb 4096 n) 4096 n) l ∙ (rw (le-ltb 4096 (length_at p) m))

    behind_comes : nonce_from i (count_at i p) ≤ length p → Comes (standing_of i keys now_hand)
    unfolding gathering
    behind_comes k = elim (dec_lt (length p + 1) (length_at p)) [
      | yes e ↦ subst Comes (sym (behind_more i keys p b begun h.wants k (omega (arith, one_more)))) (rw (behind_list k, end_held, lt-ltb (length p + 1) (length_at p) e))
      | no e ↦ let wants = wants_more i keys p h.wants (omega (arith, from_eight i)) in
          let all : length now_hand ≡ length_at p = omega (arith, one_more) in
          let w = behind_whole i keys p b begun h.wants k all in
          let l = same_length i keys p b begun h.wants in
          let reads : taken_from i keys (test_of i later) held (message_end held) ≡ reading i keys test now_hand =
          ap (λ t. taken_from i keys t held (message_end held)) takes_now
          ∙ (ap₂ (λ g n. taken_from i keys test g n) held_is (end_held ∙ sym l) ∙ taken_as_read i keys test now_hand behind now_bytes w) in
          let last : ltb (length p + 1) (message_end held) ≡ false = ap (ltb (length p + 1)) end_held ∙ le-ltb (length p + 1) (length_at p) (omega arith) in
          let ends : gathering i keys later (length p) ≡ finished i keys later (taken_from i keys (test_of i later) held (message_end held)) = rw (behind_list k, last) in
          subst Comes (sym (whole_of i keys now_hand w)) (ends ∙ ap (finished i keys later) reads, end_held ∙ sym all)
    ]

  -- by how the bytes at hand stand
  pub comes : Comes (standing_of i keys now_hand)
  comes = elim (dec_lt (length p) (ciphers_from i)) [
    | yes k ↦ in_head k (standing_of i keys now_hand) refl
    | no k ↦ elim (dec_lt (length p) (nonce_from i (count_at i p))) [
      | yes e ↦ among_comes (omega arith) e
      | no e ↦ behind_comes (omega arith) (omega arith)
    ]
  ]

  -- the reader that waits on
  pub gathers_on : standing_of i keys now_hand ≡ incomplete → Gathers i keys test now_hand (moved later (length p + 1))
  unfolding moved
  gathers_on e =
      let n : length now_hand ≡ suc (length p) = omega (arith, one_more) in
      record {
        four = omega (arith, long_moved later (length p + 1), long_numbers r (length p) b, h.four);
        wide = omega (arith, long_stored r (length p) b, h.wide);
        is = state_moved later (length p + 1) ∙ (state_stored r (length p) b ∙ h.is);
        at = position_moved later (length p + 1) (omega (arith, long_numbers r (length p) b, h.four)) ∙ sym one_more;
        stands = ap (λ k. take k held) n ∙ stands_now;
        wants = e;
        takes = test_moved i later (length p + 1) ∙ takes_now;
        bytes = now_bytes;
      }
