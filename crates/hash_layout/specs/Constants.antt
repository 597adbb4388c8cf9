-- The constants of SHA-256 (FIPS 180-4, 4.2.2 and 5.3.3), and that they are what the standard says of them: bits of roots of the first primes.
use Rattle.std.specs.Prelude.{ℕ, zero, suc, ◌*◌, ◌+◌, ◌%◌, ◌^◌, List, [], ◌∷◌, ◌++◌, Bool, true, false, cond, ◌&&◌, ◌||◌, ltb, leb, eqb}
use Rattle.hash_layout.specs.declared.Words.{Words}

-- 4.2.2: K
unfoldable pub k256 : List ℕ
k256 =
    0x428a2f98 ∷ 0x71374491 ∷ 0xb5c0fbcf ∷ 0xe9b5dba5 ∷ 0x3956c25b ∷ 0x59f111f1 ∷ 0x923f82a4 ∷ 0xab1c5ed5
    ∷ 0xd807aa98 ∷ 0x12835b01 ∷ 0x243185be ∷ 0x550c7dc3 ∷ 0x72be5d74 ∷ 0x80deb1fe ∷ 0x9bdc06a7 ∷ 0xc19bf174
    ∷ 0xe49b69c1 ∷ 0xefbe4786 ∷ 0x0fc19dc6 ∷ 0x240ca1cc ∷ 0x2de92c6f ∷ 0x4a7484aa ∷ 0x5cb0a9dc ∷ 0x76f988da
    ∷ 0x983e5152 ∷ 0xa831c66d ∷ 0xb00327c8 ∷ 0xbf597fc7 ∷ 0xc6e00bf3 ∷ 0xd5a79147 ∷ 0x06ca6351 ∷ 0x14292967
    ∷ 0x27b70a85 ∷ 0x2e1b2138 ∷ 0x4d2c6dfc ∷ 0x53380d13 ∷ 0x650a7354 ∷ 0x766a0abb ∷ 0x81c2c92e ∷ 0x92722c85
    ∷ 0xa2bfe8a1 ∷ 0xa81a664b ∷ 0xc24b8b70 ∷ 0xc76c51a3 ∷ 0xd192e819 ∷ 0xd6990624 ∷ 0xf40e3585 ∷ 0x106aa070
    ∷ 0x19a4c116 ∷ 0x1e376c08 ∷ 0x2748774c ∷ 0x34b0bcb5 ∷ 0x391c0cb3 ∷ 0x4ed8aa4a ∷ 0x5b9cca4f ∷ 0x682e6ff3
    ∷ 0x748f82ee ∷ 0x78a5636f ∷ 0x84c87814 ∷ 0x8cc70208 ∷ 0x90befffa ∷ 0xa4506ceb ∷ 0xbef9a3f7 ∷ 0xc67178f2 ∷ []

-- 5.3.3: the initial hash value, H(0)
unfoldable pub initial : Words
initial = record { a = 0x6a09e667; b = 0xbb67ae85; c = 0x3c6ef372; d = 0xa54ff53a; e = 0x510e527f; f = 0x9b05688c; g = 0x1f83d9ab; h = 0x5be0cd19 }

-- a number from 2 to k divides n
unfoldable pub divided : ℕ → ℕ → Bool
divided n zero = false
divided n (suc zero) = false
divided n (suc (suc k)) = eqb (n % suc (suc k)) 0 || divided n (suc k)

-- the primes below n
unfoldable pub primes_below : ℕ → List ℕ
primes_below zero = []
primes_below (suc zero) = []
primes_below (suc (suc zero)) = []
primes_below (suc (suc (suc n))) = primes_below (suc (suc n)) ++ cond (divided (suc (suc n)) (suc n)) [] (suc (suc n) ∷ [])

-- the whole n-th root of p, where it is at most r
unfoldable pub root : ℕ → ℕ → ℕ → ℕ
root n p zero = 0
root n p (suc r) = cond (leb (suc r ^ n) p) (suc r) (root n p r)

-- k is the first 32 bits of the fraction of p's n-th root: with c the root's whole part and these bits, c ^ n ≤ p * 2 ^ (32 * n) < (c + 1) ^ n
unfoldable pub fraction : ℕ → ℕ → ℕ → Bool
fraction n p k =
    let c : ℕ = root n p 19 * 2 ^ 32 + k in
    leb (c ^ n) (p * 2 ^ (32 * n)) && ltb (p * 2 ^ (32 * n)) (suc c ^ n)

unfoldable pub every : ℕ → List ℕ → List ℕ → Bool
every n [] [] = true
every n [] (k ∷ ks) = false
every n (p ∷ ps) [] = false
every n (p ∷ ps) (k ∷ ks) = fraction n p k && every n ps ks

-- 311 is the 64th prime
unfoldable pub primes : List ℕ
primes = primes_below 312
