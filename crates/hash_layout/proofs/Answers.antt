-- The answers of the calls in the papers' numbers and values; each view loses nothing.
use Rattle.std.specs.Prelude.{ℕ, ◌≡◌, refl, List, Result, Ok, Err, is_ok}
use Rattle.std.proofs.Common.{ap, arith}
use Rattle.hash_layout.specs.Outcome.{Reply, refused, made, written, Outcome}
use Rattle.hash_layout.specs.declared.TooLong.{TooLong}
use Rattle.hash_layout.specs.Answers.{hash_reply, hash_told}

-- the views lose nothing: the reply tells whether there is a hash, and with the bytes the whole answer
abbrev number_of : Reply → ℕ
number_of (refused n) = n
number_of made = 0
number_of (written n) = 0

pub says_tells : (a b : Result (List ℕ) TooLong) → hash_reply a ≡ hash_reply b → is_ok a ≡ is_ok b
says_tells (Ok c) (Ok d) e = refl
says_tells (Err x) (Err y) e = refl
says_tells (Ok c) (Err y) e = let z : ◌≡◌ {A = ℕ} 0 17 = ap number_of e in absurd (omega arith)
says_tells (Err x) (Ok d) e = let z : ◌≡◌ {A = ℕ} 17 0 = ap number_of e in absurd (omega arith)

pub hashed_tells : (a b : Result (List ℕ) TooLong) → hash_told a ≡ hash_told b → a ≡ b
hashed_tells (Ok c) (Ok d) e = ap Ok (ap (λ (x : Outcome). x.bytes) e)
hashed_tells (Err x) (Err y) e = refl
hashed_tells (Ok c) (Err y) e = let z : ◌≡◌ {A = ℕ} 0 17 = ap (λ (x : Outcome). number_of x.reply) e in absurd (omega arith)
hashed_tells (Err x) (Ok d) e = let z : ◌≡◌ {A = ℕ} 17 0 = ap (λ (x : Outcome). number_of x.reply) e in absurd (omega arith)
