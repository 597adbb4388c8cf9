-- The answers of the calls in document 01's numbers and values; each view loses nothing.
use Rattle.std.specs.Prelude.{ℕ, ◌≡◌, refl, List, Bool, false, cond, eqb, Option, Some, None, Result, Ok, Err}
use Rattle.std.proofs.Common.{sym, ◌∙◌, ap, ap₂}
use Rattle.frame_layout.specs.Outcome.{Reply, refused, begins, header, made, written, plaintext, Outcome}
use Rattle.frame_layout.specs.declared.HeaderWriteRefusal.{HeaderWriteRefusal}
use Rattle.frame_layout.specs.declared.HeaderWriteRefusal.TheVariants as w
use Rattle.frame_layout.specs.declared.Header.{Header}
use Rattle.frame_layout.specs.declared.HeaderReadRefusal.{HeaderReadRefusal}
use Rattle.frame_layout.specs.declared.HeaderReadRefusal.TheVariants as h
use Rattle.frame_layout.specs.declared.OtherLength.{OtherLength}
use Rattle.frame_layout.specs.declared.PlaintextWriteRefusal.{PlaintextWriteRefusal}
use Rattle.frame_layout.specs.declared.PlaintextWriteRefusal.TheVariants as p
use Rattle.frame_layout.specs.declared.Plaintext.{Plaintext}
use Rattle.frame_layout.specs.declared.TooShort.{TooShort}
use Rattle.frame_layout.specs.Answers.{next_reply, written_reply, header_reply, header_bytes, header_told, nonce_reply, nonce_bytes, nonce_told, plaintext_written_reply, plaintext_reply}

-- the views lose nothing: an answer is read back from the number of its refusal, 0 without one, and its values
record Values : Type 0 where
  number : ℕ
  flag : Bool
  urg : Bool
  value : ℕ
  next : ℕ

abbrev values : Bool → Bool → ℕ → ℕ → Values
values flag urg value next = record { number = 0; flag = flag; urg = urg; value = value; next = next }

abbrev values_of : Reply → Values
values_of (refused m) = record { number = m; flag = false; urg = false; value = 0; next = 0 }
values_of (begins o) = values false false o 0
values_of (header rekey clen o) = values rekey false clen o
values_of made = values false false 0 0
values_of (written m) = values false false m 0
values_of (plaintext fin urg urgent at) = values fin urg urgent at

back_tells : {A : Type 0} (view : A → Reply) (back : Values → A) → ((a : A) → back (values_of (view a)) ≡ a) → (a b : A) → view a ≡ view b → a ≡ b
back_tells view back law a b e = sym (law a) ∙ (ap (λ x. back (values_of x)) e ∙ law b)

abbrev next_in : Values → Option ℕ
next_in v = cond (eqb v.number 0) (Some v.value) None

next_back : (a : Option ℕ) → next_in (values_of (next_reply a)) ≡ a
next_back (Some o) = refl
next_back None = refl

pub next_tells : (a b : Option ℕ) → next_reply a ≡ next_reply b → a ≡ b
next_tells = back_tells next_reply next_in next_back

abbrev written_in : Values → Result ℕ HeaderWriteRefusal
written_in v = cond (eqb v.number 0) (Ok v.value) (Err (cond (eqb v.number 5) w.NoRoom w.NoFrame))

written_back : (a : Result ℕ HeaderWriteRefusal) → written_in (values_of (written_reply a)) ≡ a
written_back (Ok o) = refl
written_back (Err w.NoRoom) = refl
written_back (Err w.NoFrame) = refl

pub written_tells : (a b : Result ℕ HeaderWriteRefusal) → written_reply a ≡ written_reply b → a ≡ b
written_tells = back_tells written_reply written_in written_back

-- a header's bytes stand beside its values
abbrev header_in : Values → List ℕ → Result Header HeaderReadRefusal
header_in v s = cond (eqb v.number 0) (Ok (record { rekey = v.flag; clen = v.value; next = v.next; associated = s })) (Err (cond (eqb v.number 9) h.Incomplete h.NoFrame))

header_back_lem : (a : Result Header HeaderReadRefusal) → header_in (values_of (header_reply a)) (header_bytes a) ≡ a
header_back_lem (Ok x) = refl
header_back_lem (Err h.Incomplete) = refl
header_back_lem (Err h.NoFrame) = refl

pub header_tells : (a b : Result Header HeaderReadRefusal) → header_reply a ≡ header_reply b → header_bytes a ≡ header_bytes b → a ≡ b
header_tells a b e d = sym (header_back_lem a) ∙ (ap₂ (λ r s. header_in (values_of r) s) e d ∙ header_back_lem b)

pub header_read_tells : (a b : Result Header HeaderReadRefusal) → header_told a ≡ header_told b → a ≡ b
header_read_tells a b e = header_tells a b (ap (λ (x : Outcome). x.reply) e) (ap (λ (x : Outcome). x.bytes) e)

-- a nonce's bytes stand beside its reply
abbrev nonce_in : Values → List ℕ → Result (List ℕ) OtherLength
nonce_in v s = cond (eqb v.number 0) (Ok s) (Err (record {}))

nonce_back_lem : (a : Result (List ℕ) OtherLength) → nonce_in (values_of (nonce_reply a)) (nonce_bytes a) ≡ a
nonce_back_lem (Ok s) = refl
nonce_back_lem (Err e) = refl

pub nonce_tells : (a b : Result (List ℕ) OtherLength) → nonce_reply a ≡ nonce_reply b → nonce_bytes a ≡ nonce_bytes b → a ≡ b
nonce_tells a b e d = sym (nonce_back_lem a) ∙ (ap₂ (λ r s. nonce_in (values_of r) s) e d ∙ nonce_back_lem b)

pub nonce_made_tells : (a b : Result (List ℕ) OtherLength) → nonce_told a ≡ nonce_told b → a ≡ b
nonce_made_tells a b e = nonce_tells a b (ap (λ (x : Outcome). x.reply) e) (ap (λ (x : Outcome). x.bytes) e)

abbrev plaintext_written_in : Values → Result ℕ PlaintextWriteRefusal
plaintext_written_in v = cond (eqb v.number 0) (Ok v.value) (Err (cond (eqb v.number 5) p.NoRoom p.TooLong))

plaintext_written_back : (a : Result ℕ PlaintextWriteRefusal) → plaintext_written_in (values_of (plaintext_written_reply a)) ≡ a
plaintext_written_back (Ok m) = refl
plaintext_written_back (Err p.NoRoom) = refl
plaintext_written_back (Err p.TooLong) = refl

pub plaintext_written_tells : (a b : Result ℕ PlaintextWriteRefusal) → plaintext_written_reply a ≡ plaintext_written_reply b → a ≡ b
plaintext_written_tells = back_tells plaintext_written_reply plaintext_written_in plaintext_written_back

abbrev plaintext_in : Values → Result Plaintext TooShort
plaintext_in v = cond (eqb v.number 0) (Ok (record { fin = v.flag; urg = v.urg; urgent = v.value; data_at = v.next })) (Err (record {}))

plaintext_back_lem : (a : Result Plaintext TooShort) → plaintext_in (values_of (plaintext_reply a)) ≡ a
plaintext_back_lem (Ok x) = refl
plaintext_back_lem (Err e) = refl

pub plaintext_tells : (a b : Result Plaintext TooShort) → plaintext_reply a ≡ plaintext_reply b → a ≡ b
plaintext_tells = back_tells plaintext_reply plaintext_in plaintext_back_lem
