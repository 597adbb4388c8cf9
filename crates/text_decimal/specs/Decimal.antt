-- Decimal words: the number that a word says, and the digits of a number. A word is read only as it would be written: no sign, no leading 0, nothing from 2^64 on.
use Rattle.std.specs.Prelude.{ℕ, zero, suc, ◌+◌, ◌*◌, ◌-◌, ◌/◌, ◌%◌, List, [], ◌∷◌, ◌++◌, Bool, cond, ◌&&◌, leb, ltb, eqb, length}
use Rattle.std.specs.Prelude.{Option, None, Some}

-- 2^64: numbers are below it
abbrev pub numbers : ℕ
numbers = 0x10000000000000000

unfoldable pub is_digit : ℕ → Bool
is_digit c = leb 48 c && leb c 57

-- a number, if it is below 2^64
unfoldable pub fitting : Option ℕ → Option ℕ
fitting None = None
fitting (Some n) = cond (ltb n numbers) (Some n) None

-- the number whose digits are those of n, then c
unfoldable pub with_digit : ℕ → ℕ → Option ℕ
with_digit n c = cond (is_digit c) (Some (n * 10 + (c - 48))) None

-- the number whose digits are those of n, then a word
unfoldable pub digits_after : ℕ → List ℕ → Option ℕ
digits_after n [] = Some n
digits_after n (c ∷ w) = cond (is_digit c) (digits_after (n * 10 + (c - 48)) w) None

-- the number that a word says
unfoldable pub number_said : List ℕ → Option ℕ
number_said [] = None
number_said (c ∷ w) = cond (eqb c 48 && ltb 0 (length w)) None (fitting (digits_after 0 (c ∷ w)))

-- the digits of a number below 10^f
unfoldable pub digits_in : ℕ → ℕ → List ℕ
digits_in zero n = []
digits_in (suc f) n = cond (ltb n 10) ((48 + n) ∷ []) (digits_in f (n / 10) ++ ((48 + n % 10) ∷ []))

-- the digits of a number below 2^64: it has at most 20
unfoldable pub decimal_text : ℕ → List ℕ
decimal_text n = digits_in 20 n
