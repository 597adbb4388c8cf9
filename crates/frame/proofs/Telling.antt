-- The reply alone, without the bytes beside it, tells all that a header says but its bytes, and whether a nonce was made.
use Rattle.std.specs.Prelude.{ℕ, ◌≡◌, List, Bool, false, Result, Ok, Err, is_ok}
use Rattle.std.proofs.Common.{refl, ap, arith}
use Rattle.frame_layout.specs.Outcome.{Reply, refused, begins, header, made, written, plaintext}
use Rattle.frame_layout.specs.Answers.{header_reply, nonce_reply}
use Rattle.frame_layout.specs.declared.Header.{Header}
use Rattle.frame_layout.specs.declared.HeaderReadRefusal.{HeaderReadRefusal}
use Rattle.frame_layout.specs.declared.HeaderReadRefusal.TheVariants as h
use Rattle.frame_layout.specs.declared.OtherLength.{OtherLength}

-- rekey, the length of the ciphertext and the offset after the frame, or the refusal
abbrev pub said : Result Header HeaderReadRefusal → Result (Bool × (ℕ × ℕ)) HeaderReadRefusal
said (Ok x) = Ok (x.rekey, (x.clen, x.next))
said (Err e) = Err e

abbrev number : Reply → ℕ
number (refused n) = n
number (begins n) = 0
number (header rekey clen next) = 0
number made = 0
number (written n) = 0
number (plaintext fin urg urgent at) = 0

abbrev values : Reply → Bool × (ℕ × ℕ)
values (refused n) = (false, (0, 0))
values (begins n) = (false, (0, 0))
values (header rekey clen next) = (rekey, (clen, next))
values made = (false, (0, 0))
values (written n) = (false, (0, 0))
values (plaintext fin urg urgent at) = (false, (0, 0))

pub header_reply_tells : (a b : Result Header HeaderReadRefusal) → header_reply a ≡ header_reply b → said a ≡ said b
header_reply_tells (Ok x) (Ok y) e = ap (λ r. Ok (values r)) e
header_reply_tells (Ok x) (Err h.Incomplete) e = let z : ◌≡◌ {A = ℕ} 0 9 = ap number e in absurd (omega arith)
header_reply_tells (Ok x) (Err h.NoFrame) e = let z : ◌≡◌ {A = ℕ} 0 11 = ap number e in absurd (omega arith)
header_reply_tells (Err h.Incomplete) (Ok y) e = let z : ◌≡◌ {A = ℕ} 9 0 = ap number e in absurd (omega arith)
header_reply_tells (Err h.NoFrame) (Ok y) e = let z : ◌≡◌ {A = ℕ} 11 0 = ap number e in absurd (omega arith)
header_reply_tells (Err h.Incomplete) (Err h.Incomplete) e = refl
header_reply_tells (Err h.NoFrame) (Err h.NoFrame) e = refl
header_reply_tells (Err h.Incomplete) (Err h.NoFrame) e = let z : ◌≡◌ {A = ℕ} 9 11 = ap number e in absurd (omega arith)
header_reply_tells (Err h.NoFrame) (Err h.Incomplete) e = let z : ◌≡◌ {A = ℕ} 11 9 = ap number e in absurd (omega arith)

pub nonce_reply_tells : (a b : Result (List ℕ) OtherLength) → nonce_reply a ≡ nonce_reply b → is_ok a ≡ is_ok b
nonce_reply_tells (Ok x) (Ok y) e = refl
nonce_reply_tells (Err x) (Err y) e = refl
nonce_reply_tells (Ok x) (Err y) e = let z : ◌≡◌ {A = ℕ} 0 3 = ap number e in absurd (omega arith)
nonce_reply_tells (Err x) (Ok y) e = let z : ◌≡◌ {A = ℕ} 3 0 = ap number e in absurd (omega arith)
