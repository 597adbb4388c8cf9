-- The plain numbers of the calls on frames lose nothing: each call's answer, with its bytes, is read back from them.
use Rattle.std.specs.Prelude.{ℕ, ◌≡◌, refl, List, [], Bool, true, false, cond, eqb, Option, Some, None, Result, Ok, Err}
use Rattle.std.proofs.Common.{sym, ◌∙◌, ap}
use Rattle.frame_layout.specs.Outcome.{Reply, refused, begins, header, made, written, plaintext, Outcome}
use Rattle.frame_layout.specs.Answers.{next_reply, written_reply, plaintext_written_reply, header_told, nonce_told, plaintext_told}
use Rattle.frame_layout.specs.declared.HeaderWriteRefusal.{HeaderWriteRefusal}
use Rattle.frame_layout.specs.declared.HeaderWriteRefusal.TheVariants as w
use Rattle.frame_layout.specs.declared.Header.{Header}
use Rattle.frame_layout.specs.declared.HeaderReadRefusal.{HeaderReadRefusal}
use Rattle.frame_layout.specs.declared.HeaderReadRefusal.TheVariants as h
use Rattle.frame_layout.specs.declared.OtherLength.{OtherLength}
use Rattle.frame_layout.specs.declared.PlaintextWriteRefusal.{PlaintextWriteRefusal}
use Rattle.frame_layout.specs.declared.PlaintextWriteRefusal.TheVariants as p
use Rattle.frame_layout.specs.declared.Plaintext.{Plaintext}
use Rattle.frame_layout.specs.declared.TooShort.{TooShort}
use Rattle.host_frame_numbers.specs.Replies.{frame_numbers, header_with, header_numbers, nonce_numbers, plaintext_with, plaintext_numbers}
use Rattle.host_reply.specs.declared.ReplyNumbers.{ReplyNumbers}
use Rattle.host_frame_numbers.specs.declared.HeaderNumbers.{HeaderNumbers}
use Rattle.host_frame_numbers.specs.declared.NonceNumbers.{NonceNumbers}
use Rattle.host_frame_numbers.specs.declared.PlaintextNumbers.{PlaintextNumbers}

-- a reply that has kind and number alone
abbrev reply_back : ReplyNumbers → Reply
reply_back x = cond (eqb x.kind 11) (begins x.number) (cond (eqb x.kind 1) (written x.number) (refused x.number))

next_back : (x : Option ℕ) → reply_back (frame_numbers (next_reply x)) ≡ next_reply x
unfolding frame_numbers
next_back (Some o) = refl
next_back None = refl

pub next_numbers_tell : (x y : Option ℕ) → frame_numbers (next_reply x) ≡ frame_numbers (next_reply y) → next_reply x ≡ next_reply y
next_numbers_tell x y e = sym (next_back x) ∙ (ap reply_back e ∙ next_back y)

written_back : (x : Result ℕ HeaderWriteRefusal) → reply_back (frame_numbers (written_reply x)) ≡ written_reply x
unfolding frame_numbers
written_back (Ok o) = refl
written_back (Err w.NoRoom) = refl
written_back (Err w.NoFrame) = refl

pub written_numbers_tell : (x y : Result ℕ HeaderWriteRefusal) → frame_numbers (written_reply x) ≡ frame_numbers (written_reply y) → written_reply x ≡ written_reply y
written_numbers_tell x y e = sym (written_back x) ∙ (ap reply_back e ∙ written_back y)

plaintext_written_back : (x : Result ℕ PlaintextWriteRefusal) → reply_back (frame_numbers (plaintext_written_reply x)) ≡ plaintext_written_reply x
unfolding frame_numbers
plaintext_written_back (Ok m) = refl
plaintext_written_back (Err p.NoRoom) = refl
plaintext_written_back (Err p.TooLong) = refl

pub plaintext_written_numbers_tell : (x y : Result ℕ PlaintextWriteRefusal) → frame_numbers (plaintext_written_reply x) ≡ frame_numbers (plaintext_written_reply y) → plaintext_written_reply x ≡ plaintext_written_reply y
plaintext_written_numbers_tell x y e = sym (plaintext_written_back x) ∙ (ap reply_back e ∙ plaintext_written_back y)

abbrev outcome_of : Reply → (bytes : List ℕ) → Outcome
outcome_of x s = record { reply = x; bytes = s; buffer = [] }

abbrev header_back : HeaderNumbers → Outcome
header_back x = outcome_of (cond (eqb x.kind 12) (header (eqb x.rekey 1) x.clen x.number) (refused x.number)) x.associated

header_back_with : (rekey : Bool) (clen next : ℕ) (s : List ℕ) → header_back (header_with (header rekey clen next) s) ≡ outcome_of (header rekey clen next) s
unfolding frame_numbers header_with
header_back_with true clen next s = refl
header_back_with false clen next s = refl

header_back_lem : (x : Result Header HeaderReadRefusal) → header_back (header_numbers (header_told x)) ≡ header_told x
unfolding frame_numbers header_with header_numbers
header_back_lem (Ok x) = header_back_with x.rekey x.clen x.next x.associated
header_back_lem (Err h.Incomplete) = refl
header_back_lem (Err h.NoFrame) = refl

pub header_numbers_tell : (x y : Result Header HeaderReadRefusal) → header_numbers (header_told x) ≡ header_numbers (header_told y) → header_told x ≡ header_told y
header_numbers_tell x y e = sym (header_back_lem x) ∙ (ap header_back e ∙ header_back_lem y)

abbrev nonce_back : NonceNumbers → Outcome
nonce_back x = outcome_of (cond (eqb x.kind 13) made (refused x.number)) x.nonce

nonce_back_lem : (x : Result (List ℕ) OtherLength) → nonce_back (nonce_numbers (nonce_told x)) ≡ nonce_told x
unfolding frame_numbers nonce_numbers
nonce_back_lem (Ok s) = refl
nonce_back_lem (Err e) = refl

pub nonce_numbers_tell : (x y : Result (List ℕ) OtherLength) → nonce_numbers (nonce_told x) ≡ nonce_numbers (nonce_told y) → nonce_told x ≡ nonce_told y
nonce_numbers_tell x y e = sym (nonce_back_lem x) ∙ (ap nonce_back e ∙ nonce_back_lem y)

abbrev plaintext_back : PlaintextNumbers → Outcome
plaintext_back x =
    outcome_of
    (cond (eqb x.kind 14) (plaintext (eqb x.fin 1) (eqb x.urg 1) x.urgent x.number) (refused x.number))
    []

plaintext_back_with : (fin urg : Bool) (urgent at : ℕ) → plaintext_back (plaintext_with (plaintext fin urg urgent at)) ≡ outcome_of (plaintext fin urg urgent at) []
unfolding frame_numbers plaintext_with
plaintext_back_with true true urgent at = refl
plaintext_back_with true false urgent at = refl
plaintext_back_with false true urgent at = refl
plaintext_back_with false false urgent at = refl

plaintext_back_lem : (x : Result Plaintext TooShort) → plaintext_back (plaintext_numbers (plaintext_told x)) ≡ plaintext_told x
unfolding frame_numbers plaintext_with plaintext_numbers
plaintext_back_lem (Ok x) = plaintext_back_with x.fin x.urg x.urgent x.data_at
plaintext_back_lem (Err e) = refl

pub plaintext_numbers_tell : (x y : Result Plaintext TooShort) → plaintext_numbers (plaintext_told x) ≡ plaintext_numbers (plaintext_told y) → plaintext_told x ≡ plaintext_told y
plaintext_numbers_tell x y e = sym (plaintext_back_lem x) ∙ (ap plaintext_back e ∙ plaintext_back_lem y)
