-- Laws of a cipher that is listed. Assumes nothing.
use Rattle.std.specs.Prelude.{ℕ, ◌≡◌, List, [], ◌∷◌, Bool, ◌||◌, eqb, refl}
use Rattle.std.specs.List.{list_any}
use Rattle.std.proofs.Common.{◌∙◌, ap}
use Rattle.eno.specs.Option.{is_listed}
use Rattle.init_layout.specs.Reading.{in_init1}

any_listed : (c : ℕ) (l : List ℕ) → list_any (λ y. eqb y c) l ≡ is_listed c l
unfolding is_listed
any_listed c [] = refl
any_listed c (x ∷ l) = ap (λ b. eqb x c || b) (any_listed c l)

pub found_listed : (l : List ℕ) (c : ℕ) (found : Bool) → found ≡ list_any (λ y. eqb y c) l → found ≡ in_init1 l c
unfolding in_init1
found_listed l c found e = e ∙ any_listed c l
