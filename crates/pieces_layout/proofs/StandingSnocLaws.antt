-- How an Init message stands with one byte more, and that 8 stays and a whole message ends where its length says. Assumes nothing.
use Rattle.std.specs.Prelude.{ℕ, ◌+◌, ◌*◌, ◌-◌, ◌≤◌, ◌<◌, ◌≡◌, List, [], ◌∷◌, ◌++◌, Bool, true, ◌||◌, length}
use Rattle.std.proofs.Math.Path.{refl, ap}
use Rattle.std.proofs.Common.{sym, ◌∙◌, subst, append_assoc, ne_eqb, length-append}
use Rattle.std.proofs.Math.Bool.{false, cond}
use Rattle.std.proofs.Math.Decide.{dec_lt}
use native.Mathlib.Omega.{arith}
use Rattle.std.proofs.Math.Dec.{eqb}
use Rattle.wire.specs.Bytes.{Bytes, bytes_from, same_bytes}
use Rattle.wire.specs.Number.{number, number_after, number_at}
use Rattle.init_layout.specs.Layout.{Init, init1, init2, magic_of, most_length, Readable, encoded}
use Rattle.init_layout.proofs.LayoutLaws.{length_magic}
use Rattle.init_layout.specs.Reading.{agrees, length_at, count_at, ciphers_from, nonce_from, fields_end, Standing, unreadable, incomplete, whole, void_from, void_at, standing, standing_of, Says, refused_with, Reading, refused_reading, taken_from, read_as, reading}
use Rattle.init_layout.proofs.VoidLaws.{count_settled, from_eight, clear_some, clear_from}
use Rattle.init_layout.specs.StandingOfLaws.{HopefulFor, WholeFor}
use Rattle.init_layout.proofs.StandingOfLaws.{of_unreadable, of_incomplete, of_whole, whole_of}
use Rattle.init_layout.proofs.ReadableLaws.{readable_found, readable_reading, whole_readable}
use Rattle.init_layout.proofs.ContinuingLaws.{length_settled, magic_more, hopeful_less, whole_hopeful}
use Rattle.pieces_layout.specs.ByteLaws.{Ten}
use Rattle.pieces_layout.proofs.ByteLaws.{only_ten}
use Rattle.pieces_layout.proofs.VoidSnocLaws.{void_behind, void_finishes, void_among}

-- what settles how bytes stand
module _ (i : Init) (keys : ℕ) (p : List ℕ) where
  pub stands_void : void_at i p ≡ true → standing_of i keys p ≡ unreadable
  unfolding standing_of
  stands_void e = ap (λ b. cond b unreadable (standing (magic_of i) (fields_end i keys (count_at i p)) p)) e

  pub stands_hopeless : (HopefulFor i keys p → ⊥) → standing_of i keys p ≡ unreadable
  stands_hopeless h = go (standing_of i keys p) refl
    where
      go : (s : Standing) → standing_of i keys p ≡ s → s ≡ unreadable
      go unreadable e = refl
      go incomplete e = absurd (h (of_incomplete i keys p e).0)
      go (whole n) e = absurd (h (whole_hopeful i keys p (of_whole i keys p n e).0))

  pub stands_hopeful : HopefulFor i keys p → length p < length_at p → standing_of i keys p ≡ incomplete
  stands_hopeful h k = go (standing_of i keys p) refl
    where
      go : (s : Standing) → standing_of i keys p ≡ s → s ≡ incomplete
      go unreadable e = absurd (of_unreadable i keys p e h)
      go incomplete e = refl
      go (whole n) e = absurd (omega (arith, (of_whole i keys p n e).0.fields.all))

  -- a message that is not whole has fewer bytes than its length says
  pub wants_more : standing_of i keys p ≡ incomplete → 8 ≤ length p → length p < length_at p
  wants_more e h = elim (dec_lt (length p) (length_at p)) [
    | yes k ↦ k
    | no k ↦ let f = of_incomplete i keys p e in
        absurd (f.1 (record { fields = record { hopeful = f.0.fields; head = h; all = omega arith }; clear = f.0.clear }))
  ]

  pub short_yet : standing_of i keys p ≡ incomplete → length p < 4096
  unfolding most_length
  short_yet e = elim (dec_lt (length p) 8) [
    | yes h ↦ omega arith
    | no h ↦ omega (arith, wants_more e (omega arith), (of_incomplete i keys p e).0.fields.most)
  ]

  -- a whole message has more bytes than stand before its ciphers
  pub whole_long : (n : ℕ) → standing_of i keys p ≡ whole n → nonce_from i (count_at i p) + 32 ≤ length p
  unfolding fields_end
  whole_long n e =
      let w = (of_whole i keys p n e).0.fields in
      omega (arith, w.hopeful.enough w.head, w.all)

-- nothing stands yet
pub none_yet : (i : Init) (keys : ℕ) → standing_of i keys [] ≡ incomplete
unfolding standing_of void_at void_from standing count_at ciphers_from agrees length_at magic_of most_length same_bytes number_at number number_after bytes_from
none_yet init1 keys = refl
none_yet init2 keys = refl

-- once the ciphers begin, the count is at hand
pub count_kept : (i : Init) (p q : List ℕ) → ciphers_from i ≤ length p → count_at i (p ++ q) ≡ count_at i p
unfolding ciphers_from count_at
count_kept init1 p q h = count_settled init1 p q (omega arith)
count_kept init2 p q h = refl

-- one byte more, from the ciphers on
module _ (i : Init) (keys : ℕ) (p : List ℕ) (b : ℕ) (begun : ciphers_from i ≤ length p) (stands : standing_of i keys p ≡ incomplete) where
  abbrev q : List ℕ
  q = p ++ (b ∷ [])

  one_more : length q ≡ length p + 1
  one_more = length-append p (b ∷ [])

  pub same_length : length_at q ≡ length_at p
  same_length = length_settled p (b ∷ []) (omega (arith, from_eight i))

  same_count : count_at i q ≡ count_at i p
  same_count = count_kept i p (b ∷ []) begun

  hopeful : HopefulFor i keys p
  hopeful = (of_incomplete i keys p stands).0

  clear : void_from (count_at i p) p (ciphers_from i) ≡ false
  clear = clear_from i p hopeful.clear

  still_hopeful : void_at i q ≡ false → HopefulFor i keys q
  still_hopeful e =
      let h = hopeful.fields in
      let m = from_eight i in
      record {
        fields =
            record {
              magic = magic_more (magic_of i) p (b ∷ []) (omega (arith, length_magic i)) h.magic;
              most = omega (arith, h.most, same_length);
              enough = λ _. omega (arith, h.enough (omega arith), same_length, ap (fields_end i keys) same_count);
            };
        clear = e;
      }

  void_as : (t : Bool) → void_from (count_at i p) q (ciphers_from i) ≡ t → void_at i q ≡ t
  unfolding void_at
  void_as t e =
      ap (λ n. eqb n 0 || void_from n q (ciphers_from i)) same_count
      ∙ (ap (λ x. x || void_from (count_at i p) q (ciphers_from i)) (ne_eqb (count_at i p) 0 (clear_some i p hopeful.clear)) ∙ e)

  -- among the ciphers: the pair that the byte finishes decides
  pub among : length p < nonce_from i (count_at i p) → standing_of i keys q ≡ cond (void_finishes p b (ciphers_from i)) unreadable incomplete
  unfolding nonce_from fields_end
  among h = go (void_finishes p b (ciphers_from i)) refl
    where
      decides : void_from (count_at i p) q (ciphers_from i) ≡ void_finishes p b (ciphers_from i)
      decides = void_among p b (count_at i p) (ciphers_from i) begun h clear

      go : (t : Bool) → void_finishes p b (ciphers_from i) ≡ t → standing_of i keys q ≡ cond t unreadable incomplete
      go true e = stands_void i keys q (void_as true (decides ∙ e))
      go false e =
          stands_hopeful i keys q (still_hopeful (void_as false (decides ∙ e)))
          (omega (arith, one_more, same_length, hopeful.fields.enough (omega (arith, from_eight i))))

  -- behind them: it is whole with the last byte, and not before
  pub behind_clear : nonce_from i (count_at i p) ≤ length p → void_at i q ≡ false
  unfolding nonce_from
  behind_clear h = void_as false (void_behind p b (count_at i p) (ciphers_from i) h clear)

  pub behind_more : nonce_from i (count_at i p) ≤ length p → length q < length_at p → standing_of i keys q ≡ incomplete
  behind_more h k = stands_hopeful i keys q (still_hopeful (behind_clear h)) (omega (arith, same_length))

  pub behind_whole : nonce_from i (count_at i p) ≤ length p → length q ≡ length_at p → WholeFor i keys q
  behind_whole h k =
      let f = still_hopeful (behind_clear h) in
      record { fields = record { hopeful = f.fields; head = omega (arith, from_eight i, one_more); all = omega (arith, same_length) }; clear = f.clear }

-- a whole message is read from its own bytes, whatever stands behind them
module _ (i : Init) (keys : ℕ) (test : ℕ → Bool) (p x : List ℕ) (bytes : Bytes p) (w : WholeFor i keys p) where
  abbrev found : Readable i keys p
  found = whole_readable i keys p bytes w

  longer : encoded i found.message ++ (found.rest ++ x) ≡ p ++ x
  longer = sym (append_assoc (encoded i found.message) found.rest x) ∙ ap (λ l. l ++ x) found.layout

  whole_longer : WholeFor i keys (p ++ x)
  whole_longer = subst (WholeFor i keys) longer (readable_found i keys found.message (found.rest ++ x) found.fits).is_whole

  reads_same : reading i keys test (p ++ x) ≡ reading i keys test p
  reads_same =
      ap (reading i keys test) (sym longer)
      ∙ (readable_reading i keys test found.message (found.rest ++ x) found.fits
      ∙ (sym (readable_reading i keys test found.message found.rest found.fits) ∙ ap (reading i keys test) found.layout))

  pub taken_as_read : taken_from i keys test (p ++ x) (length_at p) ≡ reading i keys test p
  unfolding reading read_as
  taken_as_read =
      ap (taken_from i keys test (p ++ x)) (sym (length_settled p x w.fields.head))
      ∙ (ap (read_as i keys test (p ++ x)) (sym (whole_of i keys (p ++ x) whole_longer)) ∙ reads_same)

-- what the one-shot reader says of each standing
module _ (i : Init) (keys : ℕ) (test : ℕ → Bool) (p : List ℕ) where
  pub says_eight : standing_of i keys p ≡ unreadable → (reading i keys test p).says ≡ refused_with 8
  unfolding reading read_as refused_reading
  says_eight e = rw e

  pub says_nine : standing_of i keys p ≡ incomplete → (reading i keys test p).says ≡ refused_with 9
  unfolding reading read_as refused_reading
  says_nine e = rw e

  pub says_whole : (n : ℕ) → standing_of i keys p ≡ whole n → reading i keys test p ≡ taken_from i keys test p n
  unfolding reading read_as
  says_whole n e = rw e

  pub says_ten : (n : ℕ) → standing_of i keys p ≡ whole n → Ten (reading i keys test p).says
  says_ten n e = subst (λ (x : Reading). Ten x.says) (sym (says_whole n e)) (only_ten i keys test p n)

-- the standing behind what it says
abbrev says_of : (i : Init) (keys : ℕ) → (ℕ → Bool) → List ℕ → Says
says_of i keys test p = (reading i keys test p).says

module _ (i : Init) (keys : ℕ) (test : ℕ → Bool) (p : List ℕ) where
  -- what each standing is said to be
  abbrev Said : Standing → Type 0
  Said unreadable = says_of i keys test p ≡ refused_with 8
  Said incomplete = says_of i keys test p ≡ refused_with 9
  Said (whole n) = Ten (says_of i keys test p)

  said : (s : Standing) → standing_of i keys p ≡ s → Said s
  said unreadable e = says_eight i keys test p e
  said incomplete e = says_nine i keys test p e
  said (whole n) e = says_ten i keys test p n e

  other : (a b : ℕ) → says_of i keys test p ≡ refused_with a → says_of i keys test p ≡ refused_with b → a ≡ b
  other a b e f = let z : refused_with a ≡ refused_with b = sym e ∙ f in cc

  ten : (a : ℕ) → says_of i keys test p ≡ refused_with a → Ten (says_of i keys test p) → a ≡ 10
  ten a e t = subst Ten e t

  is_eight : says_of i keys test p ≡ refused_with 8 → standing_of i keys p ≡ unreadable
  is_eight e = go (standing_of i keys p) (said (standing_of i keys p) refl)
    where
      go : (s : Standing) → Said s → s ≡ unreadable
      go unreadable f = refl
      go incomplete f = absurd (omega (arith, other 8 9 e f))
      go (whole n) f = absurd (omega (arith, ten 8 e f))

  is_nine_lem : says_of i keys test p ≡ refused_with 9 → standing_of i keys p ≡ incomplete
  is_nine_lem e = go (standing_of i keys p) (said (standing_of i keys p) refl)
    where
      go : (s : Standing) → Said s → s ≡ incomplete
      go unreadable f = absurd (omega (arith, other 9 8 e f))
      go incomplete f = refl
      go (whole n) f = absurd (omega (arith, ten 9 e f))

  is_ten : says_of i keys test p ≡ refused_with 10 → standing_of i keys p ≡ whole (length_at p)
  is_ten e = go (standing_of i keys p) refl (said (standing_of i keys p) refl)
    where
      go : (s : Standing) → standing_of i keys p ≡ s → Said s → s ≡ whole (length_at p)
      go unreadable g f = absurd (omega (arith, other 10 8 e f))
      go incomplete g f = absurd (omega (arith, other 10 9 e f))
      go (whole n) g f = ap whole (of_whole i keys p n g).1

-- 8 stays: what no continuation makes readable is so with any bytes behind it
pub eight_stays : (i : Init) (keys : ℕ) (test : ℕ → Bool) (p q : List ℕ) → (reading i keys test p).says ≡ refused_with 8 → (reading i keys test (p ++ q)).says ≡ refused_with 8
eight_stays i keys test p q e =
    says_eight i keys test (p ++ q) (stands_hopeless i keys (p ++ q) (λ h. of_unreadable i keys p (is_eight i keys test p e) (hopeful_less i keys p q h)))

-- a message is read at its last byte: 10, or its values, with the byte with which it has as many as its length says
pub whole_at_last : (i : Init) (keys : ℕ) (p : List ℕ) (b n : ℕ) → standing_of i keys p ≡ incomplete → standing_of i keys (p ++ (b ∷ [])) ≡ whole n → length (p ++ (b ∷ [])) ≡ n
unfolding nonce_from
whole_at_last i keys p b n e f =
    let q = p ++ (b ∷ []) in
    let w = of_whole i keys q n f in
    let k = length-append p (b ∷ []) in
    elim (dec_lt (length p) 8) [
      | yes h ↦ absurd (omega (arith, whole_long i keys q n f, from_eight i))
      | no h ↦ omega (arith, wants_more i keys p e (omega arith), length_settled p (b ∷ []) (omega arith), w.0.fields.all, w.1)
    ]

-- 10 at the last: with the first byte with which the one-shot reader gives 10, the message has as many bytes as its length says
pub ten_at_last : (i : Init) (keys : ℕ) (test : ℕ → Bool) (p : List ℕ) (b : ℕ) → (reading i keys test p).says ≡ refused_with 9 → (reading i keys test (p ++ (b ∷ []))).says ≡ refused_with 10
    → length (p ++ (b ∷ [])) ≡ length_at (p ++ (b ∷ []))
ten_at_last i keys test p b e f =
    whole_at_last i keys p b (length_at (p ++ (b ∷ []))) (is_nine_lem i keys test p e) (is_ten i keys test (p ++ (b ∷ [])) f)
