-- Whether a TEP is valid is that of the two options, where the lists are theirs. Assumes nothing.
use Rattle.std.specs.Prelude.{◌≡◌, refl}
use Rattle.eno.specs.Judge.{Sides, teps_of, validity}
use Rattle.plain_validity.specs.Validity.{validity_in}

pub validity_of : (s : Sides) → validity_in s (teps_of s.own) (teps_of s.peer) ≡ validity s
unfolding validity_in validity
validity_of s = refl
