-- The answers of the calls in the papers' numbers and values; each view loses nothing.
use Rattle.std.specs.Prelude.{ℕ, ◌≡◌, refl, List, cond, eqb, Result, Ok, Err}
use Rattle.std.proofs.Common.{sym, ◌∙◌, ap}
use Rattle.key_layout.specs.Outcome.{Reply, refused, made, Outcome}
use Rattle.key_layout.specs.declared.KeyRefusal.{KeyRefusal}
use Rattle.key_layout.specs.declared.KeyRefusal.TheVariants as k
use Rattle.key_layout.specs.declared.TrafficKeys.{TrafficKeys}
use Rattle.key_layout.specs.Answers.{reply_of, bytes_told, key_told, traffic_told, session_told, identifier_told}

-- an answer is read back from its number
abbrev number_of : Reply → ℕ
number_of (refused n) = n
number_of made = 0

abbrev read_back : {T : Type 0} → T → ℕ → Result T KeyRefusal
read_back d n = cond (eqb n 0) (Ok d) (Err (cond (eqb n 3) k.Unfit k.TooLong))

-- an answer without its value
abbrev pub said : {T : Type 0} → Result T KeyRefusal → Result ℕ KeyRefusal
said (Ok d) = Ok 0
said (Err e) = Err e

said_back : {T : Type 0} → (a : Result T KeyRefusal) → read_back 0 (number_of (reply_of a)) ≡ said a
said_back (Ok d) = refl
said_back (Err k.Unfit) = refl
said_back (Err k.TooLong) = refl

-- the reply tells whether a call is refused, and why
pub says_tells : {T : Type 0} → (a b : Result T KeyRefusal) → reply_of a ≡ reply_of b → said a ≡ said b
says_tells a b e = sym (said_back a) ∙ (ap (λ x. read_back 0 (number_of x)) e ∙ said_back b)

abbrev bytes_in : Outcome → Result (List ℕ) KeyRefusal
bytes_in x = read_back x.bytes (number_of x.reply)

bytes_back : (n : ℕ) (a : Result (List ℕ) KeyRefusal) → bytes_in (bytes_told n a) ≡ a
bytes_back n (Ok d) = refl
bytes_back n (Err k.Unfit) = refl
bytes_back n (Err k.TooLong) = refl

bytes_tell : (n : ℕ) (a b : Result (List ℕ) KeyRefusal) → bytes_told n a ≡ bytes_told n b → a ≡ b
bytes_tell n a b e = sym (bytes_back n a) ∙ (ap bytes_in e ∙ bytes_back n b)

pub key_tells : (a b : Result (List ℕ) KeyRefusal) → key_told a ≡ key_told b → a ≡ b
key_tells a b e = bytes_tell 32 a b e

abbrev traffic_in : Outcome → Result TrafficKeys KeyRefusal
traffic_in x = read_back (record { length = x.size; key = x.bytes; fixed = x.fixed }) (number_of x.reply)

traffic_back : (a : Result TrafficKeys KeyRefusal) → traffic_in (traffic_told a) ≡ a
traffic_back (Ok d) = refl
traffic_back (Err k.Unfit) = refl
traffic_back (Err k.TooLong) = refl

pub traffic_tells : (a b : Result TrafficKeys KeyRefusal) → traffic_told a ≡ traffic_told b → a ≡ b
traffic_tells a b e = sym (traffic_back a) ∙ (ap traffic_in e ∙ traffic_back b)

pub session_tells : (a b : Result (List ℕ) KeyRefusal) → session_told a ≡ session_told b → a ≡ b
session_tells a b e = bytes_tell 33 a b e

pub identifier_tells : (a b : Result (List ℕ) KeyRefusal) → identifier_told a ≡ identifier_told b → a ≡ b
identifier_tells a b e = bytes_tell 18 a b e
