-- The cipher that is taken from a gathered Init message, by the reader's second number.
use Rattle.std.specs.Prelude.{ℕ, ◌≡◌, refl, List, Bool, true, false, cond, ltb}
use Rattle.std.proofs.Math.Option.{Option}
use Rattle.init_layout.specs.Layout.{init1}
use Rattle.init_layout.specs.Reading.{count_at, ciphers_from, ciphers_at, first_that, is_enabled, in_init1}
use Rattle.pieces_layout.specs.Reader.{Reader, own_from, second_of, enabled_in, own_in, test_of}
use Rattle.pieces_steps.specs.Kinds.{kind_of}

-- how many ciphers A's own Init1 listed: at most 255
unfoldable pub own_count : (second : ℕ) → ℕ
own_count n = cond (ltb 255 n) 255 n

-- of Init1 the first cipher that is enabled, of Init2 its own where A listed it
unfoldable pub chosen_in : (two : Bool) (second : ℕ) (gathered : List ℕ) → Option ℕ
chosen_in false n g = first_that (is_enabled (enabled_in n)) (ciphers_at (count_at init1 g) g 9)
chosen_in true n g = first_that (in_init1 (ciphers_at (own_count n) g own_from)) (ciphers_at 1 g 8)

-- it is the cipher that the reader takes
pub chosen_is : (two : Bool) (r : Reader)
    → chosen_in two (second_of r) r.gathered ≡ first_that (test_of (kind_of two) r) (ciphers_at (count_at (kind_of two) r.gathered) r.gathered (ciphers_from (kind_of two)))
unfolding chosen_in test_of ciphers_from count_at own_in own_count
chosen_is false r = refl
chosen_is true r = refl
