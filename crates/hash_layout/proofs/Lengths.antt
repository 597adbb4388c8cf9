-- How many bytes a padded message, a hash, a MAC, an extracted and an expanded key have; and that an empty salt is 32 zeros. Assumes nothing.
use Rattle.std.specs.Prelude.{ℕ, zero, suc, ◌+◌, ◌-◌, ◌*◌, ◌/◌, ◌%◌, ◌≡◌, refl, List, [], ◌∷◌, ◌++◌, length, replicate}
use Rattle.std.proofs.Common.{◌∙◌, arith, length-append, length-take-le}
use Rattle.std.proofs.lemmas.List.{length-replicate}
use Rattle.wire.specs.Number.{big_endian}
use Rattle.wire.specs.NumberLaws.{length_big}
use Rattle.hash_layout.specs.declared.Words.{Words}
use Rattle.hash_layout.specs.Sha256.{padded, zeros, chained, bytes_of, sha256}
use Rattle.hash_layout.specs.Hmac.{block_of, key_block, xor_all, hmac}
use Rattle.hash_layout.specs.Hkdf.{hkdf_extract, hkdf_t, okm, hkdf_expand}

-- the padded message is a number of whole blocks
pub padded_whole : (m : List ℕ) → length (padded m) % 64 ≡ 0
unfolding padded zeros
padded_whole m =
    let l : length ((0x80 ∷ replicate ((119 - length m % 64) % 64) 0) ++ big_endian 8 (length m * 8)) ≡ (119 - length m % 64) % 64 + 9 =
    length-append (0x80 ∷ replicate ((119 - length m % 64) % 64) 0) (big_endian 8 (length m * 8))
    ∙ (rw (length-replicate, length_big) (omega arith))
    in
    rw (length-append, l) (omega arith)

length_bytes_lem : (h : Words) → length (bytes_of h) ≡ 32
unfolding bytes_of big_endian
length_bytes_lem h = refl

pub length_sha : (m : List ℕ) → length (sha256 m) ≡ 32
unfolding sha256
length_sha m = length_bytes_lem (chained (padded m) (length (padded m) / 64))

pub length_hmac : (key text : List ℕ) → length (hmac key text) ≡ 32
unfolding hmac
length_hmac key text = length_sha (xor_all 0x5c (key_block key) ++ sha256 (xor_all 0x36 (key_block key) ++ text))

pub length_extract : (salt ikm : List ℕ) → length (hkdf_extract salt ikm) ≡ 32
unfolding hkdf_extract
length_extract salt ikm = length_hmac salt ikm

pub length_T : (prk info : List ℕ) (i : ℕ) → length (hkdf_t prk info (suc i)) ≡ 32
unfolding hkdf_t
length_T prk info i = length_hmac prk (hkdf_t prk info i ++ (info ++ (suc i ∷ [])))

pub length_okm : (prk info : List ℕ) (i : ℕ) → length (okm prk info i) ≡ i * 32
unfolding okm
length_okm prk info zero = refl
length_okm prk info (suc i) = length-append (okm prk info i) (hkdf_t prk info (suc i)) ∙ (rw (length_okm prk info i, length_T prk info i) (omega arith))

-- as many bytes as are asked for
pub length_expand : (prk info : List ℕ) (n : ℕ) → length (hkdf_expand prk info n) ≡ n
unfolding hkdf_expand
length_expand prk info n = let l = length_okm prk info ((n + 31) / 32) in length-take-le n (okm prk info ((n + 31) / 32)) (omega arith)

-- RFC 5869, 2.2: salt, if not provided, is set to a string of 32 zeros
pub empty_salt : (ikm : List ℕ) → hkdf_extract [] ikm ≡ hkdf_extract (replicate 32 0) ikm
unfolding hkdf_extract hmac key_block block_of
empty_salt ikm = refl
