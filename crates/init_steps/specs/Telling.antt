-- The views of how the bytes at hand stand and of the cipher that is taken lose nothing. Assumes nothing.
use Rattle.std.specs.Prelude.{ℕ, ◌≡◌, Option, Some, None, Result, Ok, Err, refl}
use Rattle.std.proofs.Common.{sym, ◌∙◌, ap}
use Rattle.std.proofs.Math.Option as maybe
use Rattle.init_layout.specs.Reading.{Standing, unreadable, incomplete, whole}
use Rattle.init_steps.specs.Answers.{standing_in, choice_of}
use Rattle.init_steps.specs.declared.NotWhole.{NotWhole}
use Rattle.init_steps.specs.declared.NotWhole.TheVariants as p

abbrev progress_in : Standing → Result ℕ NotWhole
progress_in unreadable = Err p.Unreadable
progress_in incomplete = Err p.Incomplete
progress_in (whole n) = Ok n

progress_back : (x : Result ℕ NotWhole) → progress_in (standing_in x) ≡ x
progress_back (Err p.Unreadable) = refl
progress_back (Err p.Incomplete) = refl
progress_back (Ok n) = refl

pub progress_tells : (x y : Result ℕ NotWhole) → standing_in x ≡ standing_in y → x ≡ y
progress_tells x y e = sym (progress_back x) ∙ (ap progress_in e ∙ progress_back y)

abbrev choice_in : maybe.Option ℕ → Option ℕ
choice_in (maybe.some x) = Some x
choice_in maybe.none = None

choice_back : (x : Option ℕ) → choice_in (choice_of x) ≡ x
choice_back (Some x) = refl
choice_back None = refl

pub choice_tells : (x y : Option ℕ) → choice_of x ≡ choice_of y → x ≡ y
choice_tells x y e = sym (choice_back x) ∙ (ap choice_in e ∙ choice_back y)
