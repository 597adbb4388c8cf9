-- How the bytes at hand stand, and the cipher that is taken, if any, in the definitions' words.
use Rattle.std.specs.Prelude.{ℕ, ◌≡◌, Option, Some, None, Result, Ok, Err}
use Rattle.std.proofs.Math.Option as maybe
use Rattle.init_layout.specs.Reading.{Standing, unreadable, incomplete, whole}
use Rattle.init_layout.specs.declared.InitRefusal.{InitRefusal}
use Rattle.init_layout.specs.declared.InitRefusal.TheVariants as refusal
use Rattle.init_steps.specs.declared.NotWhole.{NotWhole}
use Rattle.init_steps.specs.declared.NotWhole.TheVariants as p

abbrev pub standing_in : Result ℕ NotWhole → Standing
standing_in (Err p.Unreadable) = unreadable
standing_in (Err p.Incomplete) = incomplete
standing_in (Ok n) = whole n

abbrev pub choice_of : Option ℕ → maybe.Option ℕ
choice_of (Some x) = maybe.some x
choice_of None = maybe.none

-- what a reader refuses where no message is whole
abbrev pub refusal_of : NotWhole → InitRefusal
refusal_of p.Unreadable = refusal.Unreadable
refusal_of p.Incomplete = refusal.Incomplete

abbrev pub BecomesRefusal : NotWhole → InitRefusal → Type 0
BecomesRefusal reason r = r ≡ refusal_of reason
