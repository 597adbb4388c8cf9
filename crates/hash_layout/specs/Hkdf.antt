-- HKDF (RFC 5869) over HMAC-SHA-256.
use Rattle.std.specs.Prelude.{ℕ, zero, suc, ◌+◌, ◌/◌, List, [], ◌∷◌, ◌++◌, take}
use Rattle.hash_layout.specs.Hmac.{hmac}

-- 2.2: PRK = HMAC-Hash(salt, IKM)
unfoldable pub hkdf_extract : List ℕ → List ℕ → List ℕ
hkdf_extract salt ikm = hmac salt ikm

-- 2.3: T(0) is empty; T(i + 1) = HMAC-Hash(PRK, T(i) | info | i + 1)
unfoldable pub hkdf_t : List ℕ → List ℕ → ℕ → List ℕ
hkdf_t prk info zero = []
hkdf_t prk info (suc i) = hmac prk (hkdf_t prk info i ++ (info ++ (suc i ∷ [])))

-- T(1) | T(2) | .. | T(i)
unfoldable pub okm : List ℕ → List ℕ → ℕ → List ℕ
okm prk info zero = []
okm prk info (suc i) = okm prk info i ++ hkdf_t prk info (suc i)

-- the first n bytes of T(1) | .. | T(N), N = ceil(n / 32)
unfoldable pub hkdf_expand : List ℕ → List ℕ → ℕ → List ℕ
hkdf_expand prk info n = take n (okm prk info ((n + 31) / 32))
