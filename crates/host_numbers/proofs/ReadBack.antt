-- The plain numbers lose nothing: a reply is read back from them and the secret beside them.
use Rattle.std.specs.Prelude.{ℕ, zero, suc, ◌-◌, ◌≤◌, ◌≡◌, refl, List}
use Rattle.std.proofs.Common.{sym, ◌∙◌, ap, ap₂, arith}
use Rattle.eno.specs.Judge.{Way}
use Rattle.door.specs.Door.{Phase, idle, offering, crossed, answering, opened, unencrypted, phase_of, phase_number}
use Rattle.door.specs.Outcome.{Reply, refused, written, plain, now_in, encrypted, done, holds}
use Rattle.door.specs.Answers.{secret_beside}
use Rattle.host_reply.specs.Numbers.{way_of, way_back}
use Rattle.host_numbers.specs.Replies.{phase_told, numbers_of}
use Rattle.host_reply.specs.declared.ReplyNumbers.{ReplyNumbers}

-- no number below 0x1000000 tells a phase: no refusal, no reason, no count, and no length of an option or a transcript
pub phases_apart : (p : Phase) → 0x1000000 ≤ phase_told p
unfolding phase_told
phases_apart p = omega arith

-- the phase that a reply tells
abbrev phase_read : ℕ → Phase
phase_read n = phase_of (n - 0x1000000)

phase_back_lem : (p : Phase) → phase_read (phase_told p) ≡ p
unfolding phase_told phase_of phase_number
phase_back_lem idle = refl
phase_back_lem offering = refl
phase_back_lem crossed = refl
phase_back_lem answering = refl
phase_back_lem opened = refl
phase_back_lem unencrypted = refl

-- the reply of a kind
abbrev read_as : (kind : ℕ) → ReplyNumbers → (secret : List ℕ) → Reply
read_as zero r secret = refused r.number
read_as (suc zero) r secret = written r.number
read_as (suc (suc zero)) r secret = plain (record { reason = r.number; place = r.place; kind = r.option })
read_as (suc (suc (suc zero))) r secret = now_in (phase_read r.number)
read_as (suc (suc (suc (suc zero)))) r secret = encrypted r.role r.tep (way_of r.resumed) r.number secret
read_as (suc (suc (suc (suc (suc zero))))) r secret = done
read_as (suc (suc (suc (suc (suc (suc k)))))) r secret = holds r.number

abbrev read_back : ReplyNumbers → List ℕ → Reply
read_back r secret = read_as r.kind r secret

read_back_lem : (x : Reply) → read_back (numbers_of x) (secret_beside x) ≡ x
unfolding numbers_of
read_back_lem (refused n) = refl
read_back_lem (written n) = refl
read_back_lem (plain c) = refl
read_back_lem (now_in p) = ap now_in (phase_back_lem p)
read_back_lem (encrypted role byte way n secret) = ap (λ (w : Way). encrypted role byte w n secret) (way_back way)
read_back_lem done = refl
read_back_lem (holds n) = refl

-- two replies with the same numbers and the same secret are the same
pub numbers_tell : (x y : Reply) → numbers_of x ≡ numbers_of y → secret_beside x ≡ secret_beside y → x ≡ y
numbers_tell x y e f = sym (read_back_lem x) ∙ (ap₂ read_back e f ∙ read_back_lem y)
