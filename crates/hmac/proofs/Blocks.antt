-- The bytes of a block: zeros behind a key, and each byte XOR a number. Assumes nothing.
use Prim.Native.Nat.{ℕ, zero, suc, ◌+◌, ◌-◌, ◌<◌}
use mathlib.Core.Path.{◌≡◌, refl, ◌∙◌, ap}
use mathlib.Core.List.{List, [], ◌∷◌, map}
use native.Mathlib.Omega.{arith}
use native.Mathlib.Numerals.{add-one}
use lib.Bits.{bit_xor}
use lib.ListN.{length, get_or, drop, set, replicate, length-map}
use Rattle.hash_layout.specs.Hmac.{xor_all}

pub drop_zeros : (k n : ℕ) → drop {A = ℕ} k (replicate n 0) ≡ replicate (n - k) 0
drop_zeros zero n = let e : n - 0 ≡ n = omega arith in rw e
drop_zeros (suc k) zero = let e : 0 - suc k ≡ 0 = omega arith in rw e
drop_zeros (suc k) (suc n) = let e : suc n - suc k ≡ n - k = omega arith in rw e (drop_zeros k n)

pub xor_length : (x : ℕ) (b : List ℕ) → length (xor_all x b) ≡ length b
unfolding xor_all
xor_length x b = length-map b (λ (y : ℕ). bit_xor y x)

-- b with its first bytes XOR x
abbrev pub xored_to : ℕ → ℕ → List ℕ → List ℕ
xored_to x zero b = b
xored_to x (suc i) [] = []
xored_to x (suc i) (y ∷ b) = bit_xor y x ∷ xored_to x i b

one_more : (x i : ℕ) (b : List ℕ) → i < length b → set (xored_to x i b) i (bit_xor (get_or (xored_to x i b) i 0) x) ≡ xored_to x (suc i) b
one_more x i [] h = absurd (omega arith)
one_more x zero (y ∷ b) h = refl
one_more x (suc i) (y ∷ b) h = ap (λ (l : List ℕ). bit_xor y x ∷ l) (one_more x i b (omega arith))

pub xored_next : (x i : ℕ) (b w : List ℕ) → w ≡ xored_to x i b → i < length b → set w i (bit_xor (get_or w i 0) x) ≡ xored_to x (i + 1) b
xored_next x i b w e h = rw (add-one, e) (one_more x i b h)

xored_all : (x : ℕ) (b : List ℕ) → xored_to x (length b) b ≡ map (λ (y : ℕ). bit_xor y x) b
xored_all x [] = refl
xored_all x (y ∷ b) = ap (λ (l : List ℕ). bit_xor y x ∷ l) (xored_all x b)

pub xored_done : (x i : ℕ) (b w : List ℕ) → w ≡ xored_to x i b → i ≡ length b → w ≡ xor_all x b
unfolding xor_all
xored_done x i b w e h = e ∙ (ap (λ (k : ℕ). xored_to x k b) h ∙ xored_all x b)
