-- The answers of the writer, in document 01's numbers.
use Rattle.std.specs.Prelude.{ℕ, ◌≡◌, refl, Result, Ok, Err}
use Rattle.std.proofs.Common.{ap, arith}
use Rattle.eno.specs.Option.{Writing, wrote, refused_with}
use Rattle.option_writer.specs.declared.OptionRefusal.{OptionRefusal}
use Rattle.option_writer.specs.declared.OptionRefusal.TheVariants as refusal

-- 3 for arguments that do not fit, 5 for a lent buffer that is too short
abbrev pub option_refusal_number : OptionRefusal → ℕ
option_refusal_number refusal.Unfit = 3
option_refusal_number refusal.NoRoom = 5

-- how many bytes were written, or the number of the refusal
abbrev pub writing_of : Result ℕ OptionRefusal → Writing
writing_of (Ok n) = wrote n
writing_of (Err r) = refused_with (option_refusal_number r)

-- the number loses nothing
pub option_refusal_number_tells : (a b : OptionRefusal) → option_refusal_number a ≡ option_refusal_number b → a ≡ b
option_refusal_number_tells refusal.Unfit refusal.Unfit e = refl
option_refusal_number_tells refusal.Unfit refusal.NoRoom e = absurd (omega arith)
option_refusal_number_tells refusal.NoRoom refusal.Unfit e = absurd (omega arith)
option_refusal_number_tells refusal.NoRoom refusal.NoRoom e = refl

-- the view loses nothing
pub writing_tells : (a b : Result ℕ OptionRefusal) → writing_of a ≡ writing_of b → a ≡ b
writing_tells (Ok m) (Ok n) e = let p : m ≡ n = cc in ap Ok p
writing_tells (Ok m) (Err b) e = absurd (cc)
writing_tells (Err a) (Ok n) e = absurd (cc)
writing_tells (Err a) (Err b) e = let p : option_refusal_number a ≡ option_refusal_number b = cc in ap Err (option_refusal_number_tells a b p)
