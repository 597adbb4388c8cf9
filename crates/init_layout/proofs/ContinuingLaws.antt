-- Which bytes have a readable continuation. Assumes nothing.
use Rattle.std.specs.Prelude.{ℕ, zero, suc, ◌+◌, ◌*◌, ◌-◌, ◌≤◌, ◌<◌, ◌≡◌, true, length, get_or}
use Rattle.std.proofs.Math.Path.{refl, sym, ap, subst}
use Rattle.std.proofs.Common.{◌∙◌, arith, take_at, take-take}
use mathlib.Core.List.{List, [], ◌∷◌, ◌++◌, append_assoc, append-nil}
use Rattle.std.proofs.lemmas.Bool.{false≢true}
use Rattle.std.proofs.Math.Decide.{dec_lt}
use Rattle.std.proofs.Math.ListN.{take, drop, length-append, length-drop, take-append-drop}
use Rattle.std.proofs.Math.Seq.{take_all}
use Rattle.std.proofs.lemmas.List.{take-append-le}
use Rattle.wire.specs.Bytes.{Bytes, bytes_from, same_bytes}
use Rattle.wire.specs.ByteLaws.{same_yes, same_eq}
use Rattle.wire.specs.Number.{number, number_after, number_at}
use Rattle.init_layout.specs.Layout.{Init, init1, init2, magic_of, most_length, Readable, Continues}
use Rattle.init_layout.proofs.LayoutLaws.{length_magic}
use Rattle.init_layout.specs.Reading.{agrees, length_at, count_at, ciphers_from, nonce_from, fields_end, void_at}
use Rattle.init_layout.proofs.FieldLaws.{number_settled}
use Rattle.init_layout.specs.VoidLaws.{ones}
use Rattle.init_layout.proofs.VoidLaws.{are_ones, count_ones, clear_ones, clear_less, count_less, clear_short}
use Rattle.init_layout.specs.StandingOfLaws.{HopefulFor, WholeFor}
use Rattle.init_layout.proofs.ReadableLaws.{readable_found, whole_readable}

-- fewer bytes read as less
get_d_more : (p q : List ℕ) (j : ℕ) → get_or p j 0 ≤ get_or (p ++ q) j 0
get_d_more [] q j = omega arith
get_d_more (x ∷ p) q zero = omega arith
get_d_more (x ∷ p) q (suc j) = get_d_more p q j

number_more : (w a b : ℕ) (p q : List ℕ) (j : ℕ) → a ≤ b → number_after a (bytes_from w p j) ≤ number_after b (bytes_from w (p ++ q) j)
unfolding number_after bytes_from
number_more zero a b p q j h = h
number_more (suc w) a b p q j h =
    let k : a * 256 + get_or p j 0 ≤ b * 256 + get_or (p ++ q) j 0 = omega (arith, get_d_more p q j) in
    number_more w (a * 256 + get_or p j 0) (b * 256 + get_or (p ++ q) j 0) p q (j + 1) k

length_more : (p q : List ℕ) → length_at p ≤ length_at (p ++ q)
unfolding length_at number_at number
length_more p q = number_more 4 0 0 p q 4 (omega arith)

-- the length is settled once its bytes are at hand
pub length_settled : (p q : List ℕ) → 8 ≤ length p → length_at (p ++ q) ≡ length_at p
unfolding length_at
length_settled p q h = number_settled 4 4 p q h

-- the magic, with fewer bytes
same_agrees : (m p : List ℕ) → take (length m) p ≡ take (length p) m → agrees m p ≡ true
unfolding agrees
same_agrees m p e = ap (λ l. same_bytes l (take (length p) m)) e ∙ sym (same_yes (take (length p) m))

agrees_same : (m p : List ℕ) → agrees m p ≡ true → take (length m) p ≡ take (length p) m
unfolding agrees
agrees_same m p e = same_eq (take (length m) p) (take (length p) m) e

magic_less : (m p q : List ℕ) → agrees m (p ++ q) ≡ true → agrees m p ≡ true
magic_less m p q e = same_agrees m p (go (agrees_same m (p ++ q) e) (dec_lt (length p) (length m)))
  where
    go : take (length m) (p ++ q) ≡ take (length (p ++ q)) m → Dec (length p < length m) → take (length m) p ≡ take (length p) m
    go f (yes h) =
        take_all (length m) p (omega arith)
        ∙ (sym (take_at p q (length p) refl)
        ∙ (sym (take-take (length p) (length m) (p ++ q) (omega arith))
        ∙ (ap (take (length p)) f ∙ take-take (length p) (length (p ++ q)) m (omega (arith, length-append p q)))))
    go f (no h) =
        sym (take-append-le (length m) p q (omega arith))
        ∙ (f ∙ (take_all (length (p ++ q)) m (omega (arith, length-append p q)) ∙ sym (take_all (length p) m (omega arith))))

pub magic_more : (m p q : List ℕ) → length m ≤ length p → agrees m p ≡ true → agrees m (p ++ q) ≡ true
magic_more m p q h e =
    same_agrees m (p ++ q)
    (take-append-le (length m) p q h
    ∙ (agrees_same m p e ∙ (take_all (length p) m h ∙ sym (take_all (length (p ++ q)) m (omega (arith, length-append p q))))))

-- what may become readable with more bytes may do so with fewer
pub hopeful_less : (i : Init) (keys : ℕ) (p q : List ℕ) → HopefulFor i keys (p ++ q) → HopefulFor i keys p
unfolding fields_end nonce_from
hopeful_less i keys p q h =
    record {
      fields =
          record {
            magic = magic_less (magic_of i) p q h.fields.magic;
            most = omega (arith, length_more p q, h.fields.most);
            enough = λ e.
                let f = h.fields.enough (omega (arith, length-append p q)) in
                omega (arith, length_settled p q e, count_less i p q h.clear);
          };
      clear = clear_less i p q h.clear;
    }

ones_bytes : (k : ℕ) → Bytes (ones k)
unfolding ones
ones_bytes zero = tt
ones_bytes (suc k) = (omega arith, ones_bytes k)

pub bytes_both : (p q : List ℕ) → Bytes p → Bytes q → Bytes (p ++ q)
bytes_both [] q b c = c
bytes_both (x ∷ p) q b c = (b.0, bytes_both p q b.1 c)

-- with its length at hand a message is filled up with ones
filled_up : (i : Init) (keys : ℕ) (p : List ℕ) → 8 ≤ length p → HopefulFor i keys p → WholeFor i keys (p ++ ones (length_at p - length p))
filled_up i keys p e h =
    let k = length_at p - length p in
    let l = length_settled p (ones k) e in
    let n = length-append p (ones k) in
    let z = are_ones k in
    record {
      fields =
          record {
            hopeful =
                record {
                  magic = magic_more (magic_of i) p (ones k) (omega (arith, length_magic i)) h.fields.magic;
                  most = omega (arith, h.fields.most);
                  enough = λ _. omega (arith, h.fields.enough e, ap (fields_end i keys) (count_ones i p k));
                };
            head = omega arith;
            all = omega arith;
          };
      clear = clear_ones i p k h.clear;
    }

pub continues_with_length : (i : Init) (keys : ℕ) (p : List ℕ) → Bytes p → 8 ≤ length p → HopefulFor i keys p → Continues i keys p
continues_with_length i keys p b e h =
    let k = length_at p - length p in
    record { more = ones k; readable = whole_readable i keys (p ++ ones k) (bytes_both p (ones k) b (ones_bytes k)) (filled_up i keys p e h) }

pub continues_after : (i : Init) (keys : ℕ) (p q : List ℕ) → Continues i keys (p ++ q) → Continues i keys p
continues_after i keys p q c = record { more = q ++ c.more; readable = subst (Readable i keys) (append_assoc p q c.more) c.readable }

-- magic and length
head_length : (i : Init) (a b c d : ℕ) → length_at (magic_of i ++ (a ∷ b ∷ c ∷ d ∷ [])) ≡ ((a * 256 + b) * 256 + c) * 256 + d
unfolding magic_of length_at number_at number number_after bytes_from
head_length init1 a b c d = omega arith
head_length init2 a b c d = omega arith

head_fields : (i : Init) (keys a b c d : ℕ) → fields_end i keys (count_at i (magic_of i ++ (a ∷ b ∷ c ∷ d ∷ []))) ≤ 43 + keys
unfolding magic_of fields_end nonce_from ciphers_from count_at
head_fields init1 keys a b c d = omega arith
head_fields init2 keys a b c d = omega arith

head_bytes : (i : Init) → Bytes (magic_of i)
unfolding magic_of
head_bytes init1 = (omega arith, (omega arith, (omega arith, (omega arith, tt))))
head_bytes init2 = (omega arith, (omega arith, (omega arith, (omega arith, tt))))

-- some bytes of the length
short_1 : (i : Init) (a : ℕ) → length_at (magic_of i ++ (a ∷ [])) ≡ a * 16777216
unfolding magic_of length_at number_at number number_after bytes_from
short_1 init1 a = omega arith
short_1 init2 a = omega arith

short_2 : (i : Init) (a b : ℕ) → length_at (magic_of i ++ (a ∷ b ∷ [])) ≡ (a * 256 + b) * 65536
unfolding magic_of length_at number_at number number_after bytes_from
short_2 init1 a b = omega arith
short_2 init2 a b = omega arith

short_3 : (i : Init) (a b c : ℕ) → length_at (magic_of i ++ (a ∷ b ∷ c ∷ [])) ≡ ((a * 256 + b) * 256 + c) * 256
unfolding magic_of length_at number_at number number_after bytes_from
short_3 init1 a b c = omega arith
short_3 init2 a b c = omega arith

pub bytes_drop : (n : ℕ) (p : List ℕ) → Bytes p → Bytes (drop n p)
bytes_drop zero p b = b
bytes_drop (suc n) [] b = tt
bytes_drop (suc n) (x ∷ p) b = bytes_drop n p b.1

module _ (i : Init) (keys : ℕ) (few : keys ≤ 56) where
  head_continues : (a b c d : ℕ) → Bytes (a ∷ b ∷ c ∷ d ∷ []) → 99 ≤ ((a * 256 + b) * 256 + c) * 256 + d → ((a * 256 + b) * 256 + c) * 256 + d ≤ 4096
      → Continues i keys (magic_of i ++ (a ∷ b ∷ c ∷ d ∷ []))
  unfolding most_length
  head_continues a b c d y low high =
      let t = a ∷ b ∷ c ∷ d ∷ [] in
      let n = length-append (magic_of i) t in
      let m = length_magic i in
      continues_with_length i keys (magic_of i ++ t) (bytes_both (magic_of i) t (head_bytes i) y) (omega arith)
      (record {
        fields =
            record {
              magic = same_agrees (magic_of i) (magic_of i ++ t) (take_at (magic_of i) t (length (magic_of i)) refl ∙ sym (take_all (length (magic_of i ++ t)) (magic_of i) (omega arith)));
              most = omega (arith, head_length i a b c d);
              enough = λ _. omega (arith, head_length i a b c d, head_fields i keys a b c d);
            };
        clear = clear_short i (magic_of i ++ t) (omega arith);
      })

  further : (t q : List ℕ) → Continues i keys (magic_of i ++ (t ++ q)) → Continues i keys (magic_of i ++ t)
  further t q c = continues_after i keys (magic_of i ++ t) q (subst (Continues i keys) (sym (append_assoc (magic_of i) t q)) c)

  -- with none of the length's bytes, or some
  magic_continues : Continues i keys (magic_of i ++ [])
  magic_continues = further [] (0 ∷ 0 ∷ 16 ∷ 0 ∷ []) (head_continues 0 0 16 0 (omega arith, (omega arith, (omega arith, (omega arith, tt)))) (omega arith) (omega arith))

  last_continues : (a b c : ℕ) → Bytes (a ∷ b ∷ c ∷ []) → ((a * 256 + b) * 256 + c) * 256 ≤ 4096 → Dec (c < 16) → Continues i keys (magic_of i ++ (a ∷ b ∷ c ∷ []))
  last_continues a b c y l (yes h) =
      further (a ∷ b ∷ c ∷ []) (255 ∷ []) (head_continues a b c 255 (y.0, (y.1.0, (y.1.1.0, (omega arith, tt)))) (omega arith) (omega arith))
  last_continues a b c y l (no h) =
      further (a ∷ b ∷ c ∷ []) (0 ∷ []) (head_continues a b c 0 (y.0, (y.1.0, (y.1.1.0, (omega arith, tt)))) (omega arith) (omega arith))

  tail_continues : (t : List ℕ) → Bytes t → length t < 4 → length_at (magic_of i ++ t) ≤ 4096 → Continues i keys (magic_of i ++ t)
  tail_continues [] y h l = magic_continues
  tail_continues (a ∷ []) y h l =
      let e = short_1 i a in
      further (a ∷ []) (0 ∷ 16 ∷ 0 ∷ []) (head_continues a 0 16 0 (y.0, (omega arith, (omega arith, (omega arith, tt)))) (omega arith) (omega arith))
  tail_continues (a ∷ b ∷ []) y h l =
      let e = short_2 i a b in
      further (a ∷ b ∷ []) (16 ∷ 0 ∷ []) (head_continues a b 16 0 (y.0, (y.1.0, (omega arith, (omega arith, tt)))) (omega arith) (omega arith))
  tail_continues (a ∷ b ∷ c ∷ []) y h l = let e = short_3 i a b c in last_continues a b c y (omega arith) (dec_lt c 16)
  tail_continues (a ∷ b ∷ c ∷ d ∷ t) y h l = absurd (omega arith)

  start_continues : (p : List ℕ) → length p < 4 → agrees (magic_of i) p ≡ true → Continues i keys p
  start_continues p h e =
      let n = length_magic i in
      let f : p ≡ take (length p) (magic_of i) = sym (take_all (length (magic_of i)) p (omega arith)) ∙ agrees_same (magic_of i) p e in
      let g : p ++ drop (length p) (magic_of i) ≡ magic_of i = ap (λ l. l ++ drop (length p) (magic_of i)) f ∙ take-append-drop (length p) (magic_of i) in
      continues_after i keys p (drop (length p) (magic_of i)) (subst (Continues i keys) (append-nil (magic_of i) ∙ sym g) magic_continues)

  length_continues : (p : List ℕ) → Bytes p → 4 ≤ length p → length p < 8 → HopefulFor i keys p → Continues i keys p
  unfolding most_length
  length_continues p b low high h =
      let n = length_magic i in
      let f : take (length (magic_of i)) p ≡ magic_of i = agrees_same (magic_of i) p h.fields.magic ∙ take_all (length p) (magic_of i) (omega arith) in
      let g : magic_of i ++ drop 4 p ≡ p = ap (λ l. l ++ drop 4 p) (sym f ∙ ap (λ k. take k p) n) ∙ take-append-drop 4 p in
      subst (Continues i keys) g (tail_continues (drop 4 p) (bytes_drop 4 p b) (omega (arith, length-drop 4 p)) (omega (arith, ap length_at g, h.fields.most)))

  -- the bytes that may still be readable are those with a readable continuation
  pub hopeful_continues : (p : List ℕ) → Bytes p → HopefulFor i keys p → Continues i keys p
  hopeful_continues p b h = elim (dec_lt (length p) 8) [
    | no e ↦ continues_with_length i keys p b (omega arith) h
    | yes e ↦ elim (dec_lt (length p) 4) [
      | yes f ↦ start_continues p f h.fields.magic
      | no f ↦ length_continues p b (omega arith) e h
    ]
  ]

pub readable_whole : (i : Init) (keys : ℕ) (p : List ℕ) → Readable i keys p → WholeFor i keys p
readable_whole i keys p r = subst (WholeFor i keys) r.layout (readable_found i keys r.message r.rest r.fits).is_whole

pub whole_hopeful : (i : Init) (keys : ℕ) (p : List ℕ) → WholeFor i keys p → HopefulFor i keys p
whole_hopeful i keys p w = record { fields = w.fields.hopeful; clear = w.clear }

pub continues_hopeful : (i : Init) (keys : ℕ) (p : List ℕ) → Continues i keys p → HopefulFor i keys p
continues_hopeful i keys p c = hopeful_less i keys p c.more (whole_hopeful i keys (p ++ c.more) (readable_whole i keys (p ++ c.more) c.readable))

-- where the list is empty or void no continuation is readable
pub void_unreadable : (i : Init) (keys : ℕ) (p : List ℕ) → void_at i p ≡ true → Continues i keys p → ⊥
void_unreadable i keys p e c = false≢true (sym (continues_hopeful i keys p c).clear ∙ e)
