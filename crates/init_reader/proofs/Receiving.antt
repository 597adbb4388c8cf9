-- Laws of the two readers' ways out. Assumes nothing.
use Rattle.std.specs.Prelude.{ℕ, ◌≡◌, ◌+◌, ◌*◌, ◌≤◌, ◌<◌, List, Bool, true, false, cond, length, get_or, Err}
use Rattle.std.proofs.Common.{sym, ◌∙◌, ap, arith, lt-ltb, le-ltb, eq-eqb, ne_eqb}
use Rattle.std.proofs.Math.Option.{Option, none, some}
use Rattle.wire.specs.Bytes.{bytes_from}
use Rattle.wire.specs.Number.{number_at}
use Rattle.eno.specs.Tep.{key_length}
use Rattle.init_layout.specs.Layout.{Init, init1, init2}
use Rattle.init_layout.specs.Reading.{count_at, ciphers_from, nonce_from, fields_end, Standing, unreadable, incomplete, whole, standing_of, ciphers_at, first_that, is_enabled, in_init1, took, refused_with, reading_as, zeros, refused_reading, padded, with_cipher, taken_from, read_as, reading, read_for, read_init1, read_init2}
use Rattle.init_layout.specs.Answers.{reading_of}
use Rattle.init_layout.proofs.StandingOfLaws.{of_whole}
use Rattle.init_layout.specs.declared.Enabled.{Enabled}
use Rattle.init_steps.specs.Answers.{standing_in, refusal_of}
use Rattle.init_steps.specs.declared.NotWhole.{NotWhole}
use Rattle.init_steps.specs.declared.NotWhole.TheVariants as reason

-- either message
module _ (i : Init) (keys : ℕ) (test : ℕ → Bool) (p : List ℕ) where
  for_none : keys ≡ 0 → reading_as (refused_with 3) (zeros 32) (zeros 56) ≡ read_for i keys test p
  unfolding read_for refused_reading
  for_none e = simp (eq-eqb _ _ e)

  for_some : (keys ≡ 0 → ⊥) → (v : Standing) → v ≡ standing_of i keys p → read_as i keys test p v ≡ read_for i keys test p
  unfolding read_for reading
  for_some h v e = ap (read_as i keys test p) e ∙ simp (ne_eqb _ _ h)

  -- what is refused where no message is whole
  for_not_whole : (keys ≡ 0 → ⊥) → (e : NotWhole) → standing_in (Err e) ≡ standing_of i keys p → reading_of (Err (refusal_of e)) ≡ read_for i keys test p
  unfolding read_as refused_reading
  for_not_whole h reason.Unreadable st = for_some h unreadable st
  for_not_whole h reason.Incomplete st = for_some h incomplete st

  -- what is read of a message that is whole
  for_whole : (keys ≡ 0 → ⊥) → (n : ℕ) → whole n ≡ standing_of i keys p → (c : Option ℕ) → c ≡ first_that test (ciphers_at (count_at i p) p (ciphers_from i))
      → with_cipher c (count_at i p) n (bytes_from 32 p (nonce_from i (count_at i p))) (bytes_from keys p (nonce_from i (count_at i p) + 32)) ≡ read_for i keys test p
  unfolding read_as taken_from
  for_whole h n e c q =
      ap (λ x. with_cipher x (count_at i p) n (bytes_from 32 p (nonce_from i (count_at i p))) (bytes_from keys p (nonce_from i (count_at i p) + 32))) q ∙ for_some h (whole n) e

-- Init1
module _ (t : ℕ) (enabled : Enabled) (p : List ℕ) (keys : ℕ) (is-keys : keys ≡ key_length t) where
  pub read1_unfit : keys ≡ 0 → reading_as (refused_with 3) (zeros 32) (zeros 56) ≡ read_init1 t enabled p
  unfolding read_init1
  read1_unfit h = for_none init1 (key_length t) (is_enabled enabled) p (sym is-keys ∙ h)

  module _ (h : keys ≡ 0 → ⊥) where
    some1 : key_length t ≡ 0 → ⊥
    some1 e = h (is-keys ∙ e)

    pub read1_not_whole : (e : NotWhole) → standing_in (Err e) ≡ standing_of init1 (key_length t) p → reading_of (Err (refusal_of e)) ≡ read_init1 t enabled p
    unfolding read_init1
    read1_not_whole e st = for_not_whole init1 (key_length t) (is_enabled enabled) p some1 e st

    module _ (n : ℕ) (st : whole n ≡ standing_of init1 (key_length t) p) where
      pub read1_room : (count : ℕ) → count ≡ get_or p 8 1 → 9 + 2 * count + 32 + keys ≤ length p
      unfolding fields_end nonce_from ciphers_from count_at
      read1_room count is_count =
          let s = (of_whole init1 (key_length t) p n (sym st)).0.fields in
          omega (arith, is-keys, is_count, s.all, s.hopeful.enough s.head)

      module _ (c : Option ℕ) (q : c ≡ first_that (is_enabled enabled) (ciphers_at (count_at init1 p) p 9)) where
        is_first : c ≡ first_that (is_enabled enabled) (ciphers_at (count_at init1 p) p (ciphers_from init1))
        unfolding ciphers_from
        is_first = q

        pub read1_uncommon : c ≡ none → reading_as (refused_with 10) (zeros 32) (zeros 56) ≡ read_init1 t enabled p
        unfolding read_init1 with_cipher refused_reading
        read1_uncommon e = for_whole init1 (key_length t) (is_enabled enabled) p some1 n st none (sym e ∙ is_first)

        pub read1_taken : (count : ℕ) → count ≡ get_or p 8 1 → (x : ℕ) → c ≡ some x
            → reading_as (took x count n) (bytes_from 32 p (9 + 2 * count)) (padded (bytes_from keys p (9 + 2 * count + 32))) ≡ read_init1 t enabled p
        unfolding read_init1 with_cipher nonce_from ciphers_from count_at
        read1_taken count is_count x e =
            ap (λ k. reading_as (took x count n) (bytes_from 32 p (9 + 2 * count)) (padded (bytes_from k p (9 + 2 * count + 32)))) is-keys
            ∙ (ap (λ k. reading_as (took x k n) (bytes_from 32 p (9 + 2 * k)) (padded (bytes_from (key_length t) p (9 + 2 * k + 32)))) is_count
            ∙ for_whole init1 (key_length t) (is_enabled enabled) p some1 n st (some x) (sym e ∙ is_first))

-- Init2
module _ (t : ℕ) (own p : List ℕ) where
  pub read2_many : 255 < length own → reading_as (refused_with 3) (zeros 32) (zeros 56) ≡ read_init2 t own p
  unfolding read_init2 refused_reading
  read2_many h = simp (lt-ltb _ _ h)

  module _ (few : length own ≤ 255) (keys : ℕ) (is-keys : keys ≡ key_length t) where
    two : read_for init2 (key_length t) (in_init1 own) p ≡ read_init2 t own p
    unfolding read_init2
    two = simp (le-ltb _ _ few)

    pub read2_unfit : keys ≡ 0 → reading_as (refused_with 3) (zeros 32) (zeros 56) ≡ read_init2 t own p
    read2_unfit h = for_none init2 (key_length t) (in_init1 own) p (sym is-keys ∙ h) ∙ two

    module _ (h : keys ≡ 0 → ⊥) where
      some2 : key_length t ≡ 0 → ⊥
      some2 e = h (is-keys ∙ e)

      pub read2_not_whole : (e : NotWhole) → standing_in (Err e) ≡ standing_of init2 (key_length t) p → reading_of (Err (refusal_of e)) ≡ read_init2 t own p
      read2_not_whole e st = for_not_whole init2 (key_length t) (in_init1 own) p some2 e st ∙ two

      module _ (n : ℕ) (st : whole n ≡ standing_of init2 (key_length t) p) where
        pub read2_room : 42 + keys ≤ length p
        unfolding fields_end nonce_from ciphers_from count_at
        read2_room =
            let s = (of_whole init2 (key_length t) p n (sym st)).0.fields in
            omega (arith, is-keys, s.all, s.hopeful.enough s.head)

        module _ (x : ℕ) (is-cipher : x ≡ number_at 2 p 8) where
          only : (b : Bool) → b ≡ in_init1 own x → cond b (some x) none ≡ first_that (in_init1 own) (ciphers_at (count_at init2 p) p (ciphers_from init2))
          unfolding count_at ciphers_from ciphers_at first_that
          only b e = ap (λ d. cond d (some x) none) e ∙ ap (λ y. cond (in_init1 own y) (some y) none) is-cipher

          pub read2_uncommon : in_init1 own x ≡ false → reading_as (refused_with 10) (zeros 32) (zeros 56) ≡ read_init2 t own p
          unfolding with_cipher refused_reading
          read2_uncommon e = for_whole init2 (key_length t) (in_init1 own) p some2 n st none (only false (sym e)) ∙ two

          pub read2_taken : in_init1 own x ≡ true → reading_as (took x 1 n) (bytes_from 32 p 10) (padded (bytes_from keys p 42)) ≡ read_init2 t own p
          unfolding with_cipher nonce_from ciphers_from count_at
          read2_taken e =
              ap (λ k. reading_as (took x 1 n) (bytes_from 32 p 10) (padded (bytes_from k p 42))) is-keys
              ∙ (for_whole init2 (key_length t) (in_init1 own) p some2 n st (some x) (only true (sym e)) ∙ two)
