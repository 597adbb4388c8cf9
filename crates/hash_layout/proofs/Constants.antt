-- The constants of SHA-256 (FIPS 180-4, 4.2.2 and 5.3.3), and that they are what the standard says of them: bits of roots of the first primes.
use Rattle.std.specs.Prelude.{◌≡◌, refl, [], ◌∷◌, true, take}
use Rattle.hash_layout.specs.Constants.{k256, initial, divided, primes_below, root, fraction, every, primes}

-- K: the first 32 bits of the fractional parts of the cube roots of the first 64 primes
pub k_rule : every 3 primes k256 ≡ true
unfolding primes primes_below divided every fraction root k256
k_rule = refl

-- H(0): those of the square roots of the first 8
pub h_rule : every 2 (take 8 primes) (initial.a ∷ initial.b ∷ initial.c ∷ initial.d ∷ initial.e ∷ initial.f ∷ initial.g ∷ initial.h ∷ []) ≡ true
unfolding primes primes_below divided every fraction root initial
h_rule = refl
