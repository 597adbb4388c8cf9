-- Lengths of Init messages and of their parts. Assumes nothing.
use Rattle.std.specs.Prelude.{ℕ, ◌+◌, ◌*◌, ◌≡◌, refl, length}
use Rattle.std.proofs.Common.{◌∙◌, arith, length-append}
use mathlib.Core.List.{List, [], ◌∷◌, ◌++◌}
use Rattle.wire.specs.Number.{big_endian}
use Rattle.wire.specs.NumberLaws.{length_big}
use Rattle.init_layout.specs.Layout.{Init, init1, init2, magic_of, Message, message_with, count_field, cipher_bytes, fields_of, length_of, encoded, init1_bytes, init2_bytes}
use Rattle.init_layout.specs.Reading.{ciphers_from, nonce_from, fields_end}

pub length_magic : (i : Init) → length (magic_of i) ≡ 4
unfolding magic_of
length_magic init1 = refl
length_magic init2 = refl

pub length_ciphers : (l : List ℕ) → length (cipher_bytes l) ≡ 2 * length l
unfolding cipher_bytes
length_ciphers [] = refl
length_ciphers (c ∷ l) = length-append (big_endian 2 c) (cipher_bytes l) ∙ omega (arith, length_big 2 c, length_ciphers l)

pub length_count : (i : Init) (l : List ℕ) → 8 + length (count_field i l) ≡ ciphers_from i
unfolding count_field ciphers_from
length_count init1 l = refl
length_count init2 l = refl

-- the length that is written is the length of the whole
pub length_encoded : (i : Init) (m : Message) → length (encoded i m) ≡ length_of i m
unfolding encoded length_of
length_encoded i m =
    length-append (magic_of i) (big_endian 4 (length_of i m) ++ fields_of i m)
    ∙ omega (arith, length_magic i, length-append (big_endian 4 (length_of i m)) (fields_of i m), length_big 4 (length_of i m))

-- where the fields end, and the ignored bytes after them
pub length_of_lem : (i : Init) (m : Message) (keys : ℕ) → length m.nonce ≡ 32 → length m.key ≡ keys → length_of i m ≡ fields_end i keys (length m.ciphers) + length m.ignored
unfolding length_of fields_of fields_end nonce_from
length_of_lem i m keys n k =
    omega (
      arith,
      length-append (count_field i m.ciphers) (cipher_bytes m.ciphers ++ (m.nonce ++ (m.key ++ m.ignored))),
      length-append (cipher_bytes m.ciphers) (m.nonce ++ (m.key ++ m.ignored)),
      length-append m.nonce (m.key ++ m.ignored),
      length-append m.key m.ignored,
      length_count i m.ciphers,
      length_ciphers m.ciphers,
    )

module _ (nonce key : List ℕ) (keys : ℕ) (n : length nonce ≡ 32) (k : length key ≡ keys) where
  pub length_init1 : (ciphers : List ℕ) → length (init1_bytes ciphers nonce key) ≡ 9 + 2 * length ciphers + 32 + keys
  unfolding init1_bytes fields_end nonce_from ciphers_from
  length_init1 ciphers =
      let m = message_with ciphers nonce key [] in
      length_encoded init1 m ∙ omega (arith, length_of_lem init1 m keys n k)

  pub length_init2 : (cipher : ℕ) → length (init2_bytes cipher nonce key) ≡ 42 + keys
  unfolding init2_bytes fields_end nonce_from ciphers_from
  length_init2 cipher =
      let m = message_with (cipher ∷ []) nonce key [] in
      length_encoded init2 m ∙ omega (arith, length_of_lem init2 m keys n k)

-- Curve25519: Init1 with one cipher has 75 bytes, Init2 has 74 (document 01, the bench table)
pub bench_init1 : (cipher : ℕ) (nonce key : List ℕ) → length nonce ≡ 32 → length key ≡ 32 → length (init1_bytes (cipher ∷ []) nonce key) ≡ 75
bench_init1 cipher nonce key n k = length_init1 nonce key 32 n k (cipher ∷ [])

pub bench_init2 : (cipher : ℕ) (nonce key : List ℕ) → length nonce ≡ 32 → length key ≡ 32 → length (init2_bytes cipher nonce key) ≡ 74
bench_init2 cipher nonce key n k = length_init2 nonce key 32 n k cipher
