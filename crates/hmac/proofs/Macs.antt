-- HMAC's two hashes: what they come to, and when one of them is too long. Assumes nothing.
use Prim.Native.Nat.{ℕ, ◌+◌, ◌-◌, ◌^◌, ◌≤◌, ◌<◌}
use mathlib.Core.Path.{◌≡◌, refl, sym, ◌∙◌, ap, ap₂}
use mathlib.Core.List.{List, [], ◌++◌, append-nil}
use mathlib.Core.Bool.{true, false, ◌||◌}
use native.Mathlib.Omega.{arith}
use borrow.Author.Tests.{le-leb, lt-leb, le-ltb}
use lib.ListN.{length, length-append}
use Rattle.std.specs.Prelude.{Result, Ok, Err}
use Rattle.hash_layout.specs.declared.TooLong.{TooLong}
use Rattle.hash_layout.specs.Sha256.{sha256}
use Rattle.hash_layout.specs.Hmac.{block_of, key_block, xor_all, hmac}
use Rattle.hash_layout.proofs.Lengths.{length_sha}
use Rattle.hash_layout.specs.Calls.{hash, mac, longest, too_long, mac_too_long, outcome}
use Rattle.hash_layout.specs.Answers.{hash_told}
use Rattle.hmac.specs.Keyed.{keyed, keyed_outcome}
use Rattle.hmac.specs.Told.{tested, tested_no, tested_yes, told_made, told_long}
use Rattle.hmac.proofs.Blocks.{xor_length}

pub hash_is : (m : List ℕ) → outcome (hash m) ≡ tested (too_long (length m)) (sha256 m)
unfolding outcome
hash_is m = refl

keyed_is : (b text : List ℕ) → keyed_outcome b text ≡ tested (too_long (64 + length text)) (keyed b text)
unfolding keyed_outcome
keyed_is b text = refl

not_long : (n : ℕ) → n ≤ 1000 → too_long n ≡ false
unfolding too_long longest
not_long n h = le-ltb (2 ^ 61 - 1) n (omega arith)

-- the inner hash is over a block and the text, the outer one over a block and a digest
module _ (b text pad : List ℕ) (inner : Result (List ℕ) TooLong) (lb : length b ≡ 64) (ep : pad ≡ xor_all 0x36 b) (ei : hash_told inner ≡ outcome (hash (pad ++ text))) where
  n : length (pad ++ text) ≡ 64 + length text
  n = length-append pad text ∙ ap (λ j. j + length text) (ap length ep ∙ (xor_length 0x36 b ∙ lb))

  ti : hash_told inner ≡ tested (too_long (length (pad ++ text))) (sha256 (pad ++ text))
  ti = ei ∙ hash_is (pad ++ text)

  pub keyed_long : (x : TooLong) → inner ≡ Err x → hash_told (Err x) ≡ keyed_outcome b text
  keyed_long x s =
      let t = told_long inner (sha256 (pad ++ text)) (too_long (length (pad ++ text))) x ti s in
      let u : too_long (64 + length text) ≡ true = ap too_long (sym n) ∙ t.0 in
      sym (keyed_is b text ∙ tested_yes (too_long (64 + length text)) (keyed b text) u)

  pub keyed_made : (d outer_pad : List ℕ) (r : Result (List ℕ) TooLong) → inner ≡ Ok d → outer_pad ≡ xor_all 0x5c b → hash_told r ≡ outcome (hash (outer_pad ++ (d ++ ([] ++ ([] ++ []))))) → hash_told r ≡ keyed_outcome b text
  unfolding keyed
  keyed_made d outer_pad r s eo er =
      let t = told_made inner (sha256 (pad ++ text)) (too_long (length (pad ++ text))) d ti s in
      let u : too_long (64 + length text) ≡ false = ap too_long (sym n) ∙ t.0 in
      let e : d ≡ sha256 (xor_all 0x36 b ++ text) = t.1 ∙ ap (λ (x : List ℕ). sha256 (x ++ text)) ep in
      let l : length (xor_all 0x5c b ++ sha256 (xor_all 0x36 b ++ text)) ≡ 96 =
      length-append (xor_all 0x5c b) (sha256 (xor_all 0x36 b ++ text)) ∙ ap₂ (λ i j. i + j) (xor_length 0x5c b ∙ lb) (length_sha (xor_all 0x36 b ++ text))
      in
      er ∙ (ap₂ (λ (x y : List ℕ). outcome (hash (x ++ y))) eo (append-nil d ∙ e)
      ∙ (hash_is (xor_all 0x5c b ++ sha256 (xor_all 0x36 b ++ text)) ∙ (tested_no (too_long (length (xor_all 0x5c b ++ sha256 (xor_all 0x36 b ++ text)))) (sha256 (xor_all 0x5c b ++ sha256 (xor_all 0x36 b ++ text))) (ap too_long l ∙ not_long 96 (omega arith))
      ∙ sym (keyed_is b text ∙ tested_no (too_long (64 + length text)) (keyed b text) u))))

-- a key of at most a block is taken as it is
pub block_short : (key : List ℕ) → length key ≤ 64 → block_of key ≡ key_block key
unfolding key_block
block_short key h = rw (le-leb (length key) 64 h)

pub short_fits : (key : List ℕ) → length key ≤ 64 → too_long (length key) ≡ false
short_fits key h = not_long (length key) (omega arith)

-- a longer one is hashed
module _ (key : List ℕ) (hashed : Result (List ℕ) TooLong) (eh : hash_told hashed ≡ outcome (hash key)) where
  pub digest_32 : (d : List ℕ) → hashed ≡ Ok d → length d ≡ 32
  digest_32 d s = ap length (told_made hashed (sha256 key) (too_long (length key)) d (eh ∙ hash_is key) s).1 ∙ length_sha key

  pub block_hashed : (d : List ℕ) → hashed ≡ Ok d → 64 < length key → block_of d ≡ key_block key
  unfolding key_block
  block_hashed d s h = ap block_of (told_made hashed (sha256 key) (too_long (length key)) d (eh ∙ hash_is key) s).1 ∙ (rw (lt-leb (length key) 64 h))

  pub hashed_fits : (d : List ℕ) → hashed ≡ Ok d → too_long (length key) ≡ false
  hashed_fits d s = (told_made hashed (sha256 key) (too_long (length key)) d (eh ∙ hash_is key) s).0

  pub key_long : (x : TooLong) → hashed ≡ Err x → too_long (length key) ≡ true
  key_long x s = (told_long hashed (sha256 key) (too_long (length key)) x (eh ∙ hash_is key) s).0

-- the MAC by its key's block, or a key that is too long
pub mac_keyed : (key text b : List ℕ) (r : Result (List ℕ) TooLong) → b ≡ key_block key → too_long (length key) ≡ false → hash_told r ≡ keyed_outcome b text → hash_told r ≡ outcome (mac key text)
unfolding keyed_outcome keyed outcome mac_too_long hmac
mac_keyed key text b r eb h e = e ∙ (rw (eb, h))

pub mac_refused : (key text : List ℕ) (x : TooLong) → too_long (length key) ≡ true → hash_told (Err x) ≡ outcome (mac key text)
unfolding outcome mac_too_long
mac_refused key text x h = sym (tested_yes (too_long (length key) || too_long (64 + length text)) (hmac key text) (rw h))

pub mac_one : (key m : List ℕ) (r : Result (List ℕ) TooLong) → hash_told r ≡ outcome (mac key (m ++ ([] ++ ([] ++ [])))) → hash_told r ≡ outcome (mac key m)
mac_one key m r e = rw append-nil at e
