-- Readable bytes are read as the layout says, whatever follows; and bytes that are read whole are readable. Assumes nothing.
use Rattle.std.specs.Prelude.{ℕ, zero, suc, ◌+◌, ◌*◌, ◌-◌, ◌≤◌, ◌<◌, ◌^◌, ◌≡◌, refl, List, [], ◌∷◌, ◌++◌, Bool, true, false, get_or, drop}
use Rattle.std.proofs.Math.Path.{sym, ap, ap₂}
use Rattle.std.proofs.Common.{◌∙◌, subst, append_assoc, take_all, drop-cons}
use native.Mathlib.Omega.{arith}
use Rattle.std.proofs.Math.ListN.{length, take, length-append}
use Rattle.std.proofs.Math.Seq.{take_at}
use Rattle.std.proofs.lemmas.List.{get_or_at}
use Rattle.wire.specs.Bytes.{Bytes, bytes_from, part, same_bytes}
use Rattle.wire.specs.ByteLaws.{same_yes, same_eq, bytes_from_part, length_bytes_from, length_part}
use Rattle.wire.specs.Number.{big_endian, number_at}
use Rattle.wire.specs.NumberLaws.{length_big}
use Rattle.init_layout.specs.Layout.{Init, init1, init2, magic_of, Message, message_with, count_field, CountFits, cipher_bytes, is_void, fields_of, length_of, encoded, most_length, Fits, Readable}
use Rattle.init_layout.proofs.LayoutLaws.{length_magic, length_ciphers, length_count, length_encoded, length_of_lem}
use Rattle.init_layout.specs.Reading.{agrees, length_at, count_at, ciphers_from, nonce_from, fields_end, void_at, ciphers_at, first_that, with_cipher, answer_to, taken_from, read_as, reading}
use Rattle.init_layout.proofs.VoidLaws.{void_whole, clear_some, clear_from, clear_of}
use Rattle.init_layout.specs.StandingOfLaws.{WholeFor}
use Rattle.init_layout.proofs.StandingOfLaws.{whole_of}
use Rattle.init_layout.proofs.FieldLaws.{field_at, number_field, number_bytes, cut, ciphers_back, ciphers_bytes, length_ciphers_at, ciphers_small}
use Rattle.init_layout.specs.ReadableLaws.{Found}

-- the fields in a row, seen from each
module _ (m b c d n k g r : List ℕ) where
  at_length : m ++ (b ++ (c ++ (d ++ (n ++ (k ++ g))))) ++ r ≡ m ++ (b ++ (c ++ (d ++ (n ++ (k ++ (g ++ r))))))
  at_length = simp append_assoc

  at_count : m ++ (b ++ (c ++ (d ++ (n ++ (k ++ g))))) ++ r ≡ m ++ b ++ (c ++ (d ++ (n ++ (k ++ (g ++ r)))))
  at_count = simp append_assoc

  at_ciphers : m ++ (b ++ (c ++ (d ++ (n ++ (k ++ g))))) ++ r ≡ m ++ b ++ c ++ (d ++ (n ++ (k ++ (g ++ r))))
  at_ciphers = simp append_assoc

  at_nonce : m ++ (b ++ (c ++ (d ++ (n ++ (k ++ g))))) ++ r ≡ m ++ b ++ c ++ d ++ (n ++ (k ++ (g ++ r)))
  at_nonce = simp append_assoc

  at_key : m ++ (b ++ (c ++ (d ++ (n ++ (k ++ g))))) ++ r ≡ m ++ b ++ c ++ d ++ n ++ (k ++ (g ++ r))
  at_key = simp append_assoc

-- the count of ciphers
count_there : (i : Init) (l a r : List ℕ) → CountFits i (length l) → length a ≡ 8 → count_at i (a ++ (count_field i l ++ r)) ≡ length l
unfolding count_at count_field
count_there init1 l a r f e = get_or_at a (length l) r 1 8 e
count_there init2 l a r f e = sym f

some_cipher : (i : Init) (n : ℕ) → CountFits i n → 1 ≤ n
some_cipher init1 n f = f.0
some_cipher init2 n f = omega arith

module _ (i : Init) (keys : ℕ) (m : Message) (rest : List ℕ) (fits : Fits i keys m) where
  abbrev p : List ℕ
  p = encoded i m ++ rest

  abbrev magic_bytes : List ℕ
  magic_bytes = magic_of i

  abbrev length_field : List ℕ
  length_field = big_endian 4 (length_of i m)

  abbrev count_bytes : List ℕ
  count_bytes = count_field i m.ciphers

  abbrev cipher_list : List ℕ
  cipher_list = cipher_bytes m.ciphers

  l_m : length magic_bytes ≡ 4
  l_m = length_magic i

  l_mb : length (magic_bytes ++ length_field) ≡ 8
  l_mb = omega (arith, length-append magic_bytes length_field, l_m, length_big 4 (length_of i m))

  l_mbc : length (magic_bytes ++ length_field ++ count_bytes) ≡ ciphers_from i
  l_mbc = omega (arith, length-append (magic_bytes ++ length_field) count_bytes, l_mb, length_count i m.ciphers)

  l_mbcd : length (magic_bytes ++ length_field ++ count_bytes ++ cipher_list) ≡ nonce_from i (length m.ciphers)
  unfolding nonce_from
  l_mbcd = omega (arith, length-append (magic_bytes ++ length_field ++ count_bytes) cipher_list, l_mbc, length_ciphers m.ciphers)

  l_mbcdn : length (magic_bytes ++ length_field ++ count_bytes ++ cipher_list ++ m.nonce) ≡ nonce_from i (length m.ciphers) + 32
  l_mbcdn = omega (arith, length-append (magic_bytes ++ length_field ++ count_bytes ++ cipher_list) m.nonce, l_mbcd, fits.nonce)

  small : length_of i m < 256 ^ 4
  unfolding most_length
  small = omega (arith, fits.short)

  found_length : length_at p ≡ length_of i m
  unfolding length_at encoded fields_of
  found_length =
      ap (λ l. number_at 4 l 4) (at_length magic_bytes length_field count_bytes cipher_list m.nonce m.key m.ignored rest)
      ∙ number_field magic_bytes (count_bytes ++ (cipher_list ++ (m.nonce ++ (m.key ++ (m.ignored ++ rest))))) 4 4 (length_of i m) l_m small

  length_p : length p ≡ length_of i m + length rest
  length_p = length-append (encoded i m) rest ∙ ap (λ k. k + length rest) (length_encoded i m)

  eight : 8 ≤ length_of i m
  unfolding length_of
  eight = omega arith

  found_magic : agrees magic_bytes p ≡ true
  unfolding agrees encoded fields_of
  found_magic =
      let short : length magic_bytes ≤ length p = omega (arith, l_m, length_p, eight) in
      ap₂ same_bytes
      (ap (take (length magic_bytes)) (at_length magic_bytes length_field count_bytes cipher_list m.nonce m.key m.ignored rest) ∙ take_at magic_bytes (length_field ++ (count_bytes ++ (cipher_list ++ (m.nonce ++ (m.key ++ (m.ignored ++ rest)))))) (length magic_bytes) refl)
      (take_all (length p) magic_bytes short)
      ∙ sym (same_yes magic_bytes)

  found_count : count_at i p ≡ length m.ciphers
  unfolding encoded fields_of
  found_count =
      ap (count_at i) (at_count magic_bytes length_field count_bytes cipher_list m.nonce m.key m.ignored rest)
      ∙ count_there i m.ciphers (magic_bytes ++ length_field) (cipher_list ++ (m.nonce ++ (m.key ++ (m.ignored ++ rest)))) fits.count l_mb

  found_ciphers : ciphers_at (length m.ciphers) p (ciphers_from i) ≡ m.ciphers
  unfolding encoded fields_of
  found_ciphers =
      ciphers_back m.ciphers p (ciphers_from i) fits.each
      (ap (λ l. bytes_from (2 * length m.ciphers) l (ciphers_from i)) (at_ciphers magic_bytes length_field count_bytes cipher_list m.nonce m.key m.ignored rest)
      ∙ field_at (magic_bytes ++ length_field ++ count_bytes) cipher_list (m.nonce ++ (m.key ++ (m.ignored ++ rest))) (ciphers_from i) (2 * length m.ciphers) l_mbc (length_ciphers m.ciphers))

  found_nonce : bytes_from 32 p (nonce_from i (length m.ciphers)) ≡ m.nonce
  unfolding encoded fields_of
  found_nonce =
      ap (λ l. bytes_from 32 l (nonce_from i (length m.ciphers))) (at_nonce magic_bytes length_field count_bytes cipher_list m.nonce m.key m.ignored rest)
      ∙ field_at (magic_bytes ++ length_field ++ count_bytes ++ cipher_list) m.nonce (m.key ++ (m.ignored ++ rest)) (nonce_from i (length m.ciphers)) 32 l_mbcd fits.nonce

  found_key : bytes_from keys p (nonce_from i (length m.ciphers) + 32) ≡ m.key
  unfolding encoded fields_of
  found_key =
      ap (λ l. bytes_from keys l (nonce_from i (length m.ciphers) + 32)) (at_key magic_bytes length_field count_bytes cipher_list m.nonce m.key m.ignored rest)
      ∙ field_at (magic_bytes ++ length_field ++ count_bytes ++ cipher_list ++ m.nonce) m.key (m.ignored ++ rest) (nonce_from i (length m.ciphers) + 32) keys l_mbcdn fits.key

  fields_in : fields_end i keys (count_at i p) ≤ length_at p
  fields_in = omega (arith, ap (fields_end i keys) found_count, found_length, length_of_lem i m keys fits.nonce fits.key)

  found_clear : void_at i p ≡ false
  unfolding fields_end
  found_clear =
      clear_of i p (λ e. omega (arith, found_count, some_cipher i (length m.ciphers) fits.count))
      (void_whole i p (omega (arith, fields_in, found_length, length_p))
      ∙ (ap is_void (ap (λ k. ciphers_at k p (ciphers_from i)) found_count ∙ found_ciphers) ∙ fits.named))

  pub readable_found : Found i keys m p
  readable_found =
      record {
        is_whole =
            record {
              fields =
                  record {
                    hopeful = record { magic = found_magic; most = omega (arith, found_length, fits.short); enough = λ _. fields_in };
                    head = omega (arith, length_p, eight);
                    all = omega (arith, length_p, found_length);
                  };
              clear = found_clear;
            };
        is_length = found_length;
        is_count = found_count;
        is_ciphers = ap (λ k. ciphers_at k p (ciphers_from i)) found_count ∙ found_ciphers;
        is_nonce = ap (λ k. bytes_from 32 p (nonce_from i k)) found_count ∙ found_nonce;
        is_key = ap (λ k. bytes_from keys p (nonce_from i k + 32)) found_count ∙ found_key;
      }

-- what is read is the answer to the message, whatever the rest
pub found_reading : (i : Init) (keys : ℕ) (test : ℕ → Bool) (m : Message) (p : List ℕ) → Found i keys m p → reading i keys test p ≡ answer_to i test m
unfolding reading read_as taken_from answer_to
found_reading i keys test m p f =
    ap (read_as i keys test p) (whole_of i keys p f.is_whole)
    ∙ (ap (λ l. with_cipher (first_that test l) (count_at i p) (length_at p) (bytes_from 32 p (nonce_from i (count_at i p))) (bytes_from keys p (nonce_from i (count_at i p) + 32))) f.is_ciphers
    ∙ (ap (λ c. with_cipher (first_that test m.ciphers) c (length_at p) (bytes_from 32 p (nonce_from i (count_at i p))) (bytes_from keys p (nonce_from i (count_at i p) + 32))) f.is_count
    ∙ (ap (λ n. with_cipher (first_that test m.ciphers) (length m.ciphers) n (bytes_from 32 p (nonce_from i (count_at i p))) (bytes_from keys p (nonce_from i (count_at i p) + 32))) f.is_length
    ∙ ap₂ (with_cipher (first_that test m.ciphers) (length m.ciphers) (length_of i m)) f.is_nonce f.is_key)))

pub readable_reading : (i : Init) (keys : ℕ) (test : ℕ → Bool) (m : Message) (rest : List ℕ) → Fits i keys m → reading i keys test (encoded i m ++ rest) ≡ answer_to i test m
readable_reading i keys test m rest fits = found_reading i keys test m (encoded i m ++ rest) (readable_found i keys m rest fits)

byte_or_1 : (p : List ℕ) → Bytes p → (j : ℕ) → get_or p j 1 < 256
byte_or_1 [] b j = omega arith
byte_or_1 (x ∷ p) b zero = b.0
byte_or_1 (x ∷ p) b (suc j) = byte_or_1 p b.1 j

count_fits : (i : Init) (p : List ℕ) → Bytes p → (count_at i p ≡ 0 → ⊥) → CountFits i (count_at i p)
unfolding count_at
count_fits init1 p b h = (omega arith, omega (arith, byte_or_1 p b 8))
count_fits init2 p b h = refl

-- the count at its place
count_cut : (i : Init) (keys : ℕ) (l p : List ℕ) → length l ≡ count_at i p → fields_end i keys (count_at i p) ≤ length p → count_field i l ++ drop (ciphers_from i) p ≡ drop 8 p
unfolding count_field ciphers_from count_at fields_end nonce_from
count_cut init1 keys l p e h = ap (λ x. x ∷ drop 9 p) e ∙ sym (drop-cons p 8 1 (omega arith))
count_cut init2 keys l p e h = refl

-- a message that is whole at hand, by its parts
module _ (i : Init) (keys : ℕ) (p : List ℕ) (bytes : Bytes p) (w : WholeFor i keys p) where
  abbrev count : ℕ
  count = count_at i p

  abbrev end : ℕ
  end = fields_end i keys count

  abbrev at_hand : Message
  at_hand = message_with (ciphers_at count p (ciphers_from i)) (bytes_from 32 p (nonce_from i count)) (bytes_from keys p (nonce_from i count + 32)) (part end (length_at p - end) p)

  enough : end ≤ length_at p
  enough = w.fields.hopeful.enough w.fields.head

  hand_length : length_of i at_hand ≡ length_at p
  hand_length =
      let r = length_of_lem i at_hand keys (length_bytes_from 32 p (nonce_from i count)) (length_bytes_from keys p (nonce_from i count + 32)) in
      let c = ap (fields_end i keys) (length_ciphers_at count p (ciphers_from i)) in
      omega (arith, enough, w.fields.all, length_part end (length_at p - end) p (omega (arith, enough, w.fields.all)))

  hand_magic : magic_of i ≡ part 0 4 p
  unfolding part agrees
  hand_magic =
      let short : length (magic_of i) ≤ length p = omega (arith, length_magic i, w.fields.head) in
      sym (take_all (length p) (magic_of i) short) ∙ (sym (same_eq (take (length (magic_of i)) p) (take (length p) (magic_of i)) w.fields.hopeful.magic) ∙ ap (λ k. take k p) (length_magic i))

  hand_number : big_endian 4 (length_of i at_hand) ≡ part 4 4 p
  unfolding length_at
  hand_number = ap (big_endian 4) hand_length ∙ (number_bytes 4 4 p bytes ∙ bytes_from_part 4 p 4 w.fields.head)

  room : end ≤ length p
  room = omega (arith, enough, w.fields.all)

  abbrev rest_of : List ℕ
  rest_of = drop (length_at p) p

  from_end : at_hand.ignored ++ rest_of ≡ drop end p
  from_end =
      let e : end + (length_at p - end) ≡ length_at p = omega (arith, enough) in
      ap (λ k. part end (length_at p - end) p ++ drop k p) (sym e) ∙ sym (cut end (length_at p - end) p)

  from_key : at_hand.key ++ (at_hand.ignored ++ rest_of) ≡ drop (nonce_from i count + 32) p
  unfolding fields_end
  from_key = ap₂ (λ a b. a ++ b) (bytes_from_part keys p (nonce_from i count + 32) (omega (arith, room))) from_end ∙ sym (cut (nonce_from i count + 32) keys p)

  from_nonce : at_hand.nonce ++ (at_hand.key ++ (at_hand.ignored ++ rest_of)) ≡ drop (nonce_from i count) p
  unfolding fields_end
  from_nonce = ap₂ (λ a b. a ++ b) (bytes_from_part 32 p (nonce_from i count) (omega (arith, room))) from_key ∙ sym (cut (nonce_from i count) 32 p)

  from_ciphers : cipher_bytes at_hand.ciphers ++ (at_hand.nonce ++ (at_hand.key ++ (at_hand.ignored ++ rest_of))) ≡ drop (ciphers_from i) p
  unfolding fields_end nonce_from
  from_ciphers =
      ap₂ (λ a b. a ++ b) (ciphers_bytes count p (ciphers_from i) bytes ∙ bytes_from_part (2 * count) p (ciphers_from i) (omega (arith, room))) from_nonce
      ∙ sym (cut (ciphers_from i) (2 * count) p)

  from_count : count_field i at_hand.ciphers ++ (cipher_bytes at_hand.ciphers ++ (at_hand.nonce ++ (at_hand.key ++ (at_hand.ignored ++ rest_of)))) ≡ drop 8 p
  from_count = ap (λ l. count_field i at_hand.ciphers ++ l) from_ciphers ∙ count_cut i keys at_hand.ciphers p (length_ciphers_at count p (ciphers_from i)) room

  hand_layout : encoded i at_hand ++ rest_of ≡ p
  unfolding encoded fields_of
  hand_layout =
      at_length (magic_of i) (big_endian 4 (length_of i at_hand)) (count_field i at_hand.ciphers) (cipher_bytes at_hand.ciphers) at_hand.nonce at_hand.key at_hand.ignored rest_of
      ∙ (ap₂ (λ a b. a ++ b) hand_magic (ap₂ (λ a b. a ++ b) hand_number from_count ∙ sym (cut 4 4 p)) ∙ sym (cut 0 4 p))

  hand_count : CountFits i (length at_hand.ciphers)
  hand_count = subst (CountFits i) (sym (length_ciphers_at count p (ciphers_from i))) (count_fits i p bytes (clear_some i p w.clear))

  hand_named : is_void at_hand.ciphers ≡ false
  unfolding fields_end
  hand_named = sym (void_whole i p (omega (arith, room))) ∙ clear_from i p w.clear

  pub whole_readable : Readable i keys p
  whole_readable =
      record {
        message = at_hand;
        rest = rest_of;
        fits =
            record {
              count = hand_count;
              each = ciphers_small count p (ciphers_from i) bytes;
              named = hand_named;
              nonce = length_bytes_from 32 p (nonce_from i count);
              key = length_bytes_from keys p (nonce_from i count + 32);
              short = omega (arith, hand_length, w.fields.hopeful.most);
            };
        layout = hand_layout;
      }
