-- Worked examples, by computing: FIPS 180-4's `abc`, and the limits of row 17 on either side. The dearer ones are in hash_examples.
use Rattle.std.specs.Prelude.{◌-◌, ◌^◌, ◌≡◌, refl, [], ◌∷◌, true, false}
use Rattle.wire.specs.Number.{big_endian}
use Rattle.hash_layout.specs.Constants.{k256, initial}
use Rattle.hash_layout.specs.Sha256.{ch, maj, big_sigma0, big_sigma1, sigma0, sigma1, zeros, padded, word, word_of, schedule, temp1, temp2, round_of, rounds, plus, compressed, chained, bytes_of, sha256}
use Rattle.hash_layout.specs.Calls.{longest, too_long, mac_too_long, most_expanded, expand_too_long}

-- FIPS 180-4: one block, `abc`
pub abc : sha256 (0x61 ∷ 0x62 ∷ 0x63 ∷ []) ≡ 0xba ∷ 0x78 ∷ 0x16 ∷ 0xbf ∷ 0x8f ∷ 0x01 ∷ 0xcf ∷ 0xea ∷ 0x41 ∷ 0x41 ∷ 0x40 ∷ 0xde ∷ 0x5d ∷ 0xae ∷ 0x22 ∷ 0x23 ∷ 0xb0 ∷ 0x03 ∷ 0x61 ∷ 0xa3 ∷ 0x96 ∷ 0x17 ∷ 0x7a ∷ 0x9c ∷ 0xb4 ∷ 0x10 ∷ 0xff ∷ 0x61 ∷ 0xf2 ∷ 0x00 ∷ 0x15 ∷ 0xad ∷ []
unfolding ch maj big_sigma0 big_sigma1 sigma0 sigma1 k256 initial big_endian zeros padded word word_of schedule temp1 temp2 round_of rounds plus compressed chained bytes_of sha256
abc = refl

-- a hash: 2^61 - 1 bytes go
pub hash_most : (too_long (2 ^ 61 - 1) ≡ false) × (too_long (2 ^ 61) ≡ true)
unfolding too_long longest
hash_most = (refl, refl)

-- a MAC: a text of 2^61 - 65 bytes and a key of 2^61 - 1 go
pub mac_most : (mac_too_long (2 ^ 61 - 1) (2 ^ 61 - 65) ≡ false) × (mac_too_long (2 ^ 61) 0 ≡ true) × (mac_too_long 0 (2 ^ 61 - 64) ≡ true)
unfolding mac_too_long too_long longest
mac_most = (refl, refl, refl)

-- an expansion: 8,160 bytes go, and none at all whatever info is
pub expand_most : (expand_too_long 0 8160 ≡ false) × (expand_too_long 0 8161 ≡ true) × (expand_too_long (2 ^ 63) 0 ≡ false)
unfolding expand_too_long most_expanded too_long longest
expand_most = (refl, refl, refl)

-- info of 2^61 - 66 bytes goes for 32 bytes, of 2^61 - 98 past them
pub info_most : (expand_too_long (2 ^ 61 - 66) 32 ≡ false) × (expand_too_long (2 ^ 61 - 65) 32 ≡ true) × (expand_too_long (2 ^ 61 - 98) 33 ≡ false) × (expand_too_long (2 ^ 61 - 97) 33 ≡ true)
unfolding expand_too_long most_expanded too_long longest
info_most = (refl, refl, refl, refl)
