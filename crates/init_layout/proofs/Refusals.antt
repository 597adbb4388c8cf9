-- Demand 1 for the Init calls: a refusal leaves the lent buffer as found, and a call is refused with n exactly when n is the least number of the table that applies.
use Rattle.std.specs.Prelude.{ℕ, ◌≤◌, ◌<◌, List, [], Bool, ◌&&◌, ◌||◌, ◌↔◌}
use Rattle.std.proofs.Math.Path.{◌≡◌, refl, sym, ap}
use Rattle.std.proofs.Common.{◌∙◌, subst, append-nil, ne_eqb, lt-ltb, le-ltb, le-leb}
use Rattle.std.proofs.Math.Bool.{true, false, cond, not}
use Rattle.std.proofs.lemmas.Bool.{false≢true, lt-leb}
use Rattle.std.proofs.Math.Option.{Option, none, some}
use native.Mathlib.Omega.{arith}
use Rattle.std.proofs.Math.Decide.{dec_lt, ℕ_discrete}
use Rattle.std.proofs.Math.Dec.{ltb, leb, eqb}
use Rattle.std.proofs.Math.ListN.{length}
use Rattle.wire.specs.Bytes.{Bytes, pasted}
use Rattle.eno.specs.Tep.{is_known, key_length}
use Rattle.eno.specs.Option.{written_as, wrote}
use Rattle.eno.specs.Option as option
use Rattle.init_layout.specs.Layout.{Init, init1, init2, is_void, length_of, init1_bytes, init2_bytes, Readable, Continues}
use Rattle.init_layout.specs.Reading.{Standing, unreadable, incomplete, whole, standing_of, first_that, is_enabled, in_init1, refused_with, refused_reading, with_cipher, answer_to, read_as, reading, read_for, read_init1, read_init2}
use Rattle.init_layout.specs.Writing.{parts_fit, ciphers_fit, write_message, write_init1, write_init2}
use Rattle.init_layout.specs.declared.Enabled.{Enabled}
use Rattle.init_layout.proofs.StandingOfLaws.{of_unreadable, of_incomplete, of_whole}
use Rattle.init_layout.proofs.ReadableLaws.{readable_reading, whole_readable}
use Rattle.init_layout.proofs.ContinuingLaws.{hopeful_continues, continues_hopeful, readable_whole}
use Rattle.init_layout.specs.Numbered.{Call, write1, write2, read1, read2, OfBytes, writing_number, says_number, refused_by, bad_tep, bad_parts, number3, number5, NoCommon, Number8, Number9, Number10, Applies, row3, row5, row8, row9, row10, Least}

-- a key has at most 56 bytes
pub keys_few : (t : ℕ) → key_length t ≤ 56
unfolding key_length
keys_few t = go (eqb t 0x23) (eqb t 0x24)
  where
    go : (a b : Bool) → cond a 32 (cond b 56 0) ≤ 56
    go true b = omega arith
    go false true = omega arith
    go false false = omega arith

-- the TEPs without Init here are those that have no key length
pub bad_tep_lem : (t : ℕ) → eqb (key_length t) 0 ≡ bad_tep t
unfolding key_length bad_tep is_known
bad_tep_lem t = elim (ℕ_discrete t 0x23) [
  | yes e ↦ simp e
  | no a ↦ elim (ℕ_discrete t 0x24) [
    | yes e ↦ simp e
    | no b ↦ elim (ℕ_discrete t 0x21) [
      | yes e ↦ simp e
      | no c ↦ elim (ℕ_discrete t 0x22) [
        | yes e ↦ simp e
        | no d ↦ elim (dec_lt t 0x21) [
          | yes h ↦ simp (ne_eqb _ _ a, ne_eqb _ _ b, lt-leb 0x21 t h)
          | no h ↦ let low : 0x21 ≤ t = omega arith in let high : 0x24 < t = omega arith in simp (ne_eqb _ _ a, ne_eqb _ _ b, le-leb 0x21 t low, lt-leb t 0x24 high)
        ]
      ]
    ]
  ]
]

-- how a call ends, with the rows
data Ends (c : Call) : Type 0 where
  refuses : (n : ℕ) → refused_by c ≡ some n → Least c n → Ends c
  accepts : refused_by c ≡ none → ((m : ℕ) → Applies c m → ⊥) → Ends c

differ : {A : Type 0} → false ≡ true → A
differ e = absurd (false≢true e)

-- a writer
module _ (c : Call) (no8 : Number8 c → ⊥) (no9 : Number9 c → ⊥) (no10 : Number10 c → ⊥) where
  ends_write : (b3 b5 : Bool) → number3 c ≡ b3 → number5 c ≡ b5 → refused_by c ≡ cond b3 (some 3) (cond b5 (some 5) none) → Ends c
  ends_write true b5 e3 e5 e = refuses 3 e (record { this = row3 refl e3; none_below = below })
    where
      below : (m : ℕ) → m < 3 → Applies c m → ⊥
      below m h (row3 q x) = omega arith
      below m h (row5 q x) = omega arith
      below m h (row8 q x) = omega arith
      below m h (row9 q x) = omega arith
      below m h (row10 q x) = omega arith
  ends_write false true e3 e5 e = refuses 5 e (record { this = row5 refl e5; none_below = below })
    where
      below : (m : ℕ) → m < 5 → Applies c m → ⊥
      below m h (row3 q x) = differ (sym e3 ∙ x)
      below m h (row5 q x) = omega arith
      below m h (row8 q x) = omega arith
      below m h (row9 q x) = omega arith
      below m h (row10 q x) = omega arith
  ends_write false false e3 e5 e = accepts e all
    where
      all : (m : ℕ) → Applies c m → ⊥
      all m (row3 q x) = differ (sym e3 ∙ x)
      all m (row5 q x) = differ (sym e5 ∙ x)
      all m (row8 q x) = no8 x
      all m (row9 q x) = no9 x
      all m (row10 q x) = no10 x

-- a reader of bytes p
module _ (i : Init) (keys : ℕ) (few : keys ≤ 56) (test : ℕ → Bool) (p : List ℕ) (bytes : Bytes p) where
  -- the answer is that to the message which the bytes encode
  pub read_as_lem : (r : Readable i keys p) → reading i keys test p ≡ answer_to i test r.message
  read_as_lem r = subst (λ l. reading i keys test l ≡ answer_to i test r.message) r.layout (readable_reading i keys test r.message r.rest r.fits)

  already : Readable i keys p → Continues i keys p
  already r = record { more = []; readable = subst (Readable i keys) (sym (append-nil p)) r }

  module _ (c : Call) (e3 : number3 c ≡ false) (e5 : number5 c ≡ false) (e : refused_by c ≡ says_number (reading i keys test p).says)
      (to8 : (Continues i keys p → ⊥) → Number8 c) (from8 : Number8 c → Continues i keys p → ⊥)
      (to9 : (Readable i keys p → ⊥) × Continues i keys p → Number9 c) (from9 : Number9 c → (Readable i keys p → ⊥) × Continues i keys p)
      (to10 : NoCommon i keys test p → Number10 c) (from10 : Number10 c → NoCommon i keys test p)
    where
      says_as : (v : Standing) → standing_of i keys p ≡ v → refused_by c ≡ says_number (read_as i keys test p v).says
      unfolding reading
      says_as v q = e ∙ ap (λ x. says_number (read_as i keys test p x).says) q

      ends_unreadable : standing_of i keys p ≡ unreadable → Ends c
      unfolding read_as refused_reading
      ends_unreadable q = refuses 8 (says_as unreadable q) (record { this = row8 refl (to8 never); none_below = below })
        where
          never : Continues i keys p → ⊥
          never k = of_unreadable i keys p q (continues_hopeful i keys p k)

          below : (m : ℕ) → m < 8 → Applies c m → ⊥
          below m h (row3 k x) = differ (sym e3 ∙ x)
          below m h (row5 k x) = differ (sym e5 ∙ x)
          below m h (row8 k x) = omega arith
          below m h (row9 k x) = omega arith
          below m h (row10 k x) = omega arith

      ends_incomplete : standing_of i keys p ≡ incomplete → Ends c
      unfolding read_as refused_reading
      ends_incomplete q = refuses 9 (says_as incomplete q) (record { this = row9 refl (to9 (not_yet, later)); none_below = below })
        where
          not_yet : Readable i keys p → ⊥
          not_yet r = (of_incomplete i keys p q).1 (readable_whole i keys p r)

          later : Continues i keys p
          later = hopeful_continues i keys few p bytes (of_incomplete i keys p q).0

          below : (m : ℕ) → m < 9 → Applies c m → ⊥
          below m h (row3 k x) = differ (sym e3 ∙ x)
          below m h (row5 k x) = differ (sym e5 ∙ x)
          below m h (row8 k x) = from8 x later
          below m h (row9 k x) = omega arith
          below m h (row10 k x) = omega arith

      -- readable: 10, or accepted
      answer_number : (r : Readable i keys p) (x : Option ℕ) → first_that test r.message.ciphers ≡ x
          → refused_by c ≡ says_number (with_cipher x (length r.message.ciphers) (length_of i r.message) r.message.nonce r.message.key).says
      unfolding answer_to
      answer_number r x q =
          e
          ∙ (ap (λ a. says_number a.says) (read_as_lem r)
          ∙ ap (λ y. says_number (with_cipher y (length r.message.ciphers) (length_of i r.message) r.message.nonce r.message.key).says) q)

      ends_readable : (r : Readable i keys p) (x : Option ℕ) → first_that test r.message.ciphers ≡ x → Ends c
      unfolding with_cipher refused_reading
      ends_readable r none q = refuses 10 (answer_number r none q) (record { this = row10 refl (to10 (record { readable = r; nothing = q })); none_below = below })
        where
          below : (m : ℕ) → m < 10 → Applies c m → ⊥
          below m h (row3 k x) = differ (sym e3 ∙ x)
          below m h (row5 k x) = differ (sym e5 ∙ x)
          below m h (row8 k x) = from8 x (already r)
          below m h (row9 k x) = (from9 x).0 r
          below m h (row10 k x) = omega arith
      ends_readable r (some y) q = accepts (answer_number r (some y) q) all
        where
          all : (m : ℕ) → Applies c m → ⊥
          all m (row3 k x) = differ (sym e3 ∙ x)
          all m (row5 k x) = differ (sym e5 ∙ x)
          all m (row8 k x) = from8 x (already r)
          all m (row9 k x) = (from9 x).0 r
          all m (row10 k x) =
              let n = from10 x in
              let z : ◌≡◌ {A = Option ℕ} none (some 10) = sym (answer_number r (some y) q) ∙ answer_number n.readable none n.nothing in
              let w : ◌≡◌ {A = ℕ} 0 1 = cc in
              omega arith

      ends_whole : (n : ℕ) → standing_of i keys p ≡ whole n → Ends c
      ends_whole n q =
          let r = whole_readable i keys p bytes (of_whole i keys p n q).0 in
          ends_readable r (first_that test r.message.ciphers) refl

      ends_read : Ends c
      ends_read = go (standing_of i keys p) refl
        where
          go : (v : Standing) → standing_of i keys p ≡ v → Ends c
          go unreadable q = ends_unreadable q
          go incomplete q = ends_incomplete q
          go (whole n) q = ends_whole n q

ends_3 : (c : Call) → number3 c ≡ true → refused_by c ≡ some 3 → Ends c
ends_3 c e3 e = refuses 3 e (record { this = row3 refl e3; none_below = below })
  where
    below : (m : ℕ) → m < 3 → Applies c m → ⊥
    below m h (row3 q x) = omega arith
    below m h (row5 q x) = omega arith
    below m h (row8 q x) = omega arith
    below m h (row9 q x) = omega arith
    below m h (row10 q x) = omega arith

-- the writers' tests are those of the table
unfit_rows : (a b c d : Bool) → not (not a && b && c && d) ≡ a || not b || not c || not d
unfit_rows true b c d = refl
unfit_rows false false c d = refl
unfit_rows false true false d = refl
unfit_rows false true true d = refl

unfit_list : (x p q v : Bool) → x || not (p && q && not v) ≡ x || not q || not p || v
unfit_list true p q v = refl
unfit_list false false false v = refl
unfit_list false false true v = refl
unfit_list false true false v = refl
unfit_list false true true false = refl
unfit_list false true true true = refl

twice_not : (b : Bool) → not (not b) ≡ b
twice_not true = refl
twice_not false = refl

over : (n : ℕ) → ltb 255 n ≡ not (leb n 255)
over n = elim (dec_lt 255 n) [
  | yes h ↦ simp (lt-ltb 255 n h, lt-leb n 255 h)
  | no h ↦ let k : n ≤ 255 = omega arith in simp (le-ltb 255 n k, le-leb n 255 k)
]

empty : (n : ℕ) → eqb n 0 ≡ not (leb 1 n)
empty n = elim (dec_lt 0 n) [
  | yes h ↦ let z : n ≡ 0 → ⊥ = λ e. omega arith in simp (ne_eqb n 0 z, le-leb 1 n h)
  | no h ↦ let z : n ≡ 0 = omega arith in simp (z)
]

write_number : (fit : Bool) (o s : List ℕ) → writing_number (write_message fit o s).says ≡ cond (not fit) (some 3) (cond (ltb (length s) (length o)) (some 5) none)
unfolding write_message
write_number false o s = refl
write_number true o s = go (ltb (length s) (length o))
  where
    go : (b : Bool) → writing_number (cond b (written_as (option.refused_with 5) s) (written_as (wrote (length o)) (pasted s 0 o))).says ≡ cond b (some 5) none
    go true = refl
    go false = refl

module _ (t : ℕ) (nonce key s : List ℕ) where
  number_1 : (ciphers : List ℕ) → let c = write1 t ciphers nonce key s in refused_by c ≡ cond (number3 c) (some 3) (cond (number5 c) (some 5) none)
  unfolding refused_by number3 number5 write_init1 parts_fit ciphers_fit bad_parts
  number_1 ciphers =
      let o = init1_bytes ciphers nonce key in
      let A = eqb (key_length t) 0 in
      let B = eqb (length nonce) 32 in
      let C = eqb (length key) (key_length t) in
      let n = length ciphers in
      let v = is_void ciphers in
      write_number (not A && B && C && (leb 1 n && leb n 255 && not v)) o s
      ∙ ap (λ b. cond b (some 3) (cond (ltb (length s) (length o)) (some 5) none))
      (unfit_rows A B C (leb 1 n && leb n 255 && not v)
      ∙ (unfit_list (A || not B || not C) (leb 1 n) (leb n 255) v
      ∙ (ap (λ b. A || not B || not C || b || not (leb 1 n) || v) (sym (over n))
      ∙ (ap (λ b. A || not B || not C || ltb 255 n || b || v) (sym (empty n))
      ∙ ap (λ b. b || not B || not C || ltb 255 n || eqb n 0 || v) (bad_tep_lem t)))))

  number_2 : (cipher : ℕ) → let c = write2 t cipher nonce key s in refused_by c ≡ cond (number3 c) (some 3) (cond (number5 c) (some 5) none)
  unfolding refused_by number3 number5 write_init2 parts_fit bad_parts
  number_2 cipher =
      let o = init2_bytes cipher nonce key in
      let A = eqb (key_length t) 0 in
      let B = eqb (length nonce) 32 in
      let C = eqb (length key) (key_length t) in
      let v = eqb cipher 0 in
      write_number (not A && B && C && not v) o s
      ∙ ap (λ b. cond b (some 3) (cond (ltb (length s) (length o)) (some 5) none))
      (unfit_rows A B C (not v) ∙ (ap (λ b. A || not B || not C || b) (twice_not v) ∙ ap (λ b. b || not B || not C || v) (bad_tep_lem t)))

-- the readers' tests
module _ (t : ℕ) (p : List ℕ) (bytes : Bytes p) where
  ends_1 : (enabled : Enabled) (b : Bool) → bad_tep t ≡ b → Ends (read1 t enabled p)
  unfolding refused_by number3 number5 read_init1 read_for refused_reading
  ends_1 enabled true q =
      ends_3 (read1 t enabled p) q
      (ap (λ b. says_number (cond b (refused_reading 3) (reading init1 (key_length t) (is_enabled enabled) p)).says) (bad_tep_lem t ∙ q))
  ends_1 enabled false q =
      ends_read init1 (key_length t) (keys_few t) (is_enabled enabled) p bytes (read1 t enabled p) q refl
      (ap (λ b. says_number (cond b (refused_reading 3) (reading init1 (key_length t) (is_enabled enabled) p)).says) (bad_tep_lem t ∙ q))
      (λ x. x) (λ x. x) (λ x. x) (λ x. x) (λ x. x) (λ x. x)

  -- either test
  or_true : (a b : Bool) → b ≡ true → a || b ≡ true
  or_true true b e = refl
  or_true false b e = e

  ends_2 : (own : List ℕ) (many bad : Bool) → ltb 255 (length own) ≡ many → bad_tep t ≡ bad → Ends (read2 t own p)
  unfolding refused_by number3 number5 read_init2 read_for refused_reading
  ends_2 own true bad m q =
      ends_3 (read2 t own p) (or_true (bad_tep t) (ltb 255 (length own)) m)
      (ap (λ b. says_number (cond b (refused_reading 3) (cond (eqb (key_length t) 0) (refused_reading 3) (reading init2 (key_length t) (in_init1 own) p))).says) m)
  ends_2 own false true m q =
      ends_3 (read2 t own p) (ap (λ b. b || ltb 255 (length own)) q)
      (ap (λ b. says_number (cond b (refused_reading 3) (cond (eqb (key_length t) 0) (refused_reading 3) (reading init2 (key_length t) (in_init1 own) p))).says) m
      ∙ ap (λ b. says_number (cond b (refused_reading 3) (reading init2 (key_length t) (in_init1 own) p)).says) (bad_tep_lem t ∙ q))
  ends_2 own false false m q =
      ends_read init2 (key_length t) (keys_few t) (in_init1 own) p bytes (read2 t own p) (ap (λ b. b || ltb 255 (length own)) q ∙ m) refl
      (ap (λ b. says_number (cond b (refused_reading 3) (cond (eqb (key_length t) 0) (refused_reading 3) (reading init2 (key_length t) (in_init1 own) p))).says) m
      ∙ ap (λ b. says_number (cond b (refused_reading 3) (reading init2 (key_length t) (in_init1 own) p)).says) (bad_tep_lem t ∙ q))
      (λ x. x) (λ x. x) (λ x. x) (λ x. x) (λ x. x) (λ x. x)

ends : (c : Call) → OfBytes c → Ends c
ends (write1 t ciphers nonce key s) u = let c = write1 t ciphers nonce key s in ends_write c (λ x. x) (λ x. x) (λ x. x) (number3 c) (number5 c) refl refl (number_1 t nonce key s ciphers)
ends (write2 t cipher nonce key s) u = let c = write2 t cipher nonce key s in ends_write c (λ x. x) (λ x. x) (λ x. x) (number3 c) (number5 c) refl refl (number_2 t nonce key s cipher)
ends (read1 t enabled p) u = ends_1 t p u enabled (bad_tep t) refl
ends (read2 t own p) u = ends_2 t p u own (ltb 255 (length own)) (bad_tep t) refl refl

-- a call is refused with n exactly when n is the least number that applies; so no other number occurs
pub refused_exactly : (c : Call) → OfBytes c → (n : ℕ) → (refused_by c ≡ some n) ↔ Least c n
refused_exactly c u n = (λ e. there e (ends c u), λ l. back l (ends c u))
  where
    there : refused_by c ≡ some n → Ends c → Least c n
    there e (refuses k f l) = let q : k ≡ n = cc in subst (Least c) q l
    there e (accepts f a) = let z : ◌≡◌ {A = ℕ} 0 1 = cc in absurd (omega arith)

    back : Least c n → Ends c → refused_by c ≡ some n
    back l (refuses k f g) = elim (dec_lt k n) [
      | yes h ↦ absurd (l.none_below k h g.this)
      | no h ↦ elim (dec_lt n k) [
        | yes j ↦ absurd (g.none_below n j l.this)
        | no j ↦ let q : k ≡ n = omega arith in f ∙ ap (λ x. some x) q
      ]
    ]
    back l (accepts f a) = absurd (a n l.this)

-- a refused writer leaves the lent buffer as found
kept : (fit : Bool) (o s : List ℕ) (n : ℕ) → (write_message fit o s).says ≡ option.refused_with n → (write_message fit o s).buffer ≡ s
unfolding write_message
kept false o s n e = refl
kept true o s n e = go (ltb (length s) (length o)) e
  where
    go : (b : Bool) → (cond b (written_as (option.refused_with 5) s) (written_as (wrote (length o)) (pasted s 0 o))).says ≡ option.refused_with n
        → (cond b (written_as (option.refused_with 5) s) (written_as (wrote (length o)) (pasted s 0 o))).buffer ≡ s
    go true e = refl
    go false e = let z : ◌≡◌ {A = ℕ} 0 1 = cc in absurd (omega arith)

pub init1_kept : (t : ℕ) (ciphers nonce key s : List ℕ) (n : ℕ) → (write_init1 t ciphers nonce key s).says ≡ option.refused_with n → (write_init1 t ciphers nonce key s).buffer ≡ s
unfolding write_init1
init1_kept t ciphers nonce key s n e = kept (parts_fit t nonce key && ciphers_fit ciphers) (init1_bytes ciphers nonce key) s n e

pub init2_kept : (t cipher : ℕ) (nonce key s : List ℕ) (n : ℕ) → (write_init2 t cipher nonce key s).says ≡ option.refused_with n → (write_init2 t cipher nonce key s).buffer ≡ s
unfolding write_init2
init2_kept t cipher nonce key s n e = kept (parts_fit t nonce key && not (eqb cipher 0)) (init2_bytes cipher nonce key) s n e
