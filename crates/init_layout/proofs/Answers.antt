-- The answers of writers and readers, in document 01's numbers.
use Rattle.std.specs.Prelude.{◌≡◌, ℕ, Result, Ok, Err, refl, cond, eqb}
use Rattle.std.proofs.Common.{sym, ◌∙◌, ap}
use Rattle.eno.specs.Option.{Writing, wrote}
use Rattle.eno.specs.Option as o
use Rattle.init_layout.specs.Reading.{Says, took, refused_with, Reading}
use Rattle.init_layout.specs.declared.InitWriteRefusal.{InitWriteRefusal}
use Rattle.init_layout.specs.declared.InitWriteRefusal.TheVariants as w
use Rattle.init_layout.specs.declared.InitMessage.{InitMessage}
use Rattle.init_layout.specs.declared.InitRefusal.{InitRefusal}
use Rattle.init_layout.specs.declared.InitRefusal.TheVariants as a
use Rattle.init_layout.specs.Answers.{writing_of, says_of, reading_of}

-- the views lose nothing: an answer is read back from its numbers
abbrev written_in : Writing → Result ℕ InitWriteRefusal
written_in (wrote n) = Ok n
written_in (o.refused_with n) = cond (eqb n 3) (Err w.Unfit) (Err w.NoRoom)

written_back : (x : Result ℕ InitWriteRefusal) → written_in (writing_of x) ≡ x
written_back (Ok n) = refl
written_back (Err w.Unfit) = refl
written_back (Err w.NoRoom) = refl

pub writing_tells : (x y : Result ℕ InitWriteRefusal) → writing_of x ≡ writing_of y → x ≡ y
writing_tells x y e = sym (written_back x) ∙ (ap written_in e ∙ written_back y)

abbrev refusal_in : ℕ → InitRefusal
refusal_in n = cond (eqb n 3) a.Unfit (cond (eqb n 8) a.Unreadable (cond (eqb n 9) a.Incomplete a.NoCommonCipher))

-- what is said without nonce and key: the cipher taken, the count of ciphers and the length of the message, or the refusal
abbrev pub said : Result InitMessage InitRefusal → Result (ℕ × ℕ × ℕ) InitRefusal
said (Ok m) = Ok (m.cipher, m.count, m.length)
said (Err e) = Err e

abbrev said_in : Says → Result (ℕ × ℕ × ℕ) InitRefusal
said_in (took cipher count n) = Ok (cipher, count, n)
said_in (refused_with n) = Err (refusal_in n)

said_back : (x : Result InitMessage InitRefusal) → said_in (says_of x) ≡ said x
said_back (Ok m) = refl
said_back (Err a.Unfit) = refl
said_back (Err a.Unreadable) = refl
said_back (Err a.Incomplete) = refl
said_back (Err a.NoCommonCipher) = refl

pub says_tells : (x y : Result InitMessage InitRefusal) → says_of x ≡ says_of y → said x ≡ said y
says_tells x y e = sym (said_back x) ∙ (ap said_in e ∙ said_back y)

abbrev read_in : Reading → Result InitMessage InitRefusal
read_in r = with_says r.says
  where
    with_says : Says → Result InitMessage InitRefusal
    with_says (took cipher count n) = Ok (record { cipher = cipher; count = count; length = n; nonce = r.nonce; key = r.key })
    with_says (refused_with n) = Err (refusal_in n)

read_back : (x : Result InitMessage InitRefusal) → read_in (reading_of x) ≡ x
read_back (Ok m) = refl
read_back (Err a.Unfit) = refl
read_back (Err a.Unreadable) = refl
read_back (Err a.Incomplete) = refl
read_back (Err a.NoCommonCipher) = refl

pub reading_tells : (x y : Result InitMessage InitRefusal) → reading_of x ≡ reading_of y → x ≡ y
reading_tells x y e = sym (read_back x) ∙ (ap read_in e ∙ read_back y)
