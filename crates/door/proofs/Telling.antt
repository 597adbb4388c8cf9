-- The numbers and values lose nothing: two answers of the code that say the same are the same.
use Rattle.std.specs.Prelude.{ℕ, zero, suc, ◌≡◌, refl, List, Bool, true, false, Result, Ok, Err}
use Rattle.std.proofs.Common.{sym, ◌∙◌, ap}
use Rattle.eno.specs.Judge.{way_if, is_resumed}
use Rattle.eno.specs.declared.SessionRecord.{SessionRecord}
use Rattle.door.specs.Door as d
use Rattle.door.specs.Outcome as o
use Rattle.door.specs.Outcome.{Effect, keep, add, remove}
use Rattle.door.specs.Answers.{refusal_number, phase_as, reply_of, effect_of}
use Rattle.door.specs.declared.Refusal.{Refusal}
use Rattle.door.specs.declared.Refusal.TheVariants as refusal
use Rattle.door.specs.declared.Phase.{Phase}
use Rattle.door.specs.declared.Phase.TheVariants as phase
use Rattle.door.specs.declared.Reply.{Reply}
use Rattle.door.specs.declared.Reply.TheVariants as reply
use Rattle.door.specs.declared.Change.{Change}
use Rattle.door.specs.declared.Change.TheVariants as change

-- the refusal with a number
abbrev refusal_of : ℕ → Refusal
refusal_of zero = refusal.NotHeld
refusal_of (suc zero) = refusal.NoDoor
refusal_of (suc (suc zero)) = refusal.AreaTooLong
refusal_of (suc (suc (suc zero))) = refusal.Unfit
refusal_of (suc (suc (suc (suc zero)))) = refusal.OutOfTurn
refusal_of (suc (suc (suc (suc (suc zero))))) = refusal.NoRoom
refusal_of (suc (suc (suc (suc (suc (suc zero)))))) = refusal.Full
refusal_of (suc (suc (suc (suc (suc (suc (suc zero))))))) = refusal.AlreadyHeld
refusal_of (suc (suc (suc (suc (suc (suc (suc (suc n)))))))) = refusal.NotHeld

refusal_back : (r : Refusal) → refusal_of (refusal_number r) ≡ r
refusal_back refusal.NoDoor = refl
refusal_back refusal.AreaTooLong = refl
refusal_back refusal.Unfit = refl
refusal_back refusal.OutOfTurn = refl
refusal_back refusal.NoRoom = refl
refusal_back refusal.Full = refl
refusal_back refusal.AlreadyHeld = refl
refusal_back refusal.NotHeld = refl

pub refusal_tells : (a b : Refusal) → refusal_number a ≡ refusal_number b → a ≡ b
refusal_tells a b e = sym (refusal_back a) ∙ (ap refusal_of e ∙ refusal_back b)

abbrev phase_back : d.Phase → Phase
phase_back d.idle = phase.Idle
phase_back d.offering = phase.Offered
phase_back d.crossed = phase.Crossed
phase_back d.answering = phase.Answered
phase_back d.opened = phase.Open
phase_back d.unencrypted = phase.Plain

phase_back_lem : (p : Phase) → phase_back (phase_as p) ≡ p
phase_back_lem phase.Idle = refl
phase_back_lem phase.Offered = refl
phase_back_lem phase.Crossed = refl
phase_back_lem phase.Answered = refl
phase_back_lem phase.Open = refl
phase_back_lem phase.Plain = refl

pub phase_tells : (a b : Phase) → phase_as a ≡ phase_as b → a ≡ b
phase_tells a b e = sym (phase_back_lem a) ∙ (ap phase_back e ∙ phase_back_lem b)

abbrev reply_back : o.Reply → Result Reply Refusal
reply_back (o.refused n) = Err (refusal_of n)
reply_back (o.written n) = Ok (reply.Written n)
reply_back (o.plain n) = Ok (reply.Plain n)
reply_back (o.now_in p) = Ok (reply.Now (phase_back p))
reply_back (o.encrypted role byte way n secret) = Ok (reply.Encrypted role byte (is_resumed way) n)
reply_back o.done = Ok reply.Done
reply_back (o.holds n) = Ok (reply.Holds n)

resumed_back : (b : Bool) → is_resumed (way_if b) ≡ b
resumed_back true = refl
resumed_back false = refl

reply_back_lem : (r : Result Reply Refusal) (secret : List ℕ) → reply_back (reply_of r secret) ≡ r
reply_back_lem (Err r) secret = ap Err (refusal_back r)
reply_back_lem (Ok (reply.Written n)) secret = refl
reply_back_lem (Ok (reply.Plain n)) secret = refl
reply_back_lem (Ok (reply.Now p)) secret = ap (λ x. Ok (reply.Now x)) (phase_back_lem p)
reply_back_lem (Ok (reply.Encrypted role byte again n)) secret = ap (λ b. Ok (reply.Encrypted role byte b n)) (resumed_back again)
reply_back_lem (Ok reply.Done) secret = refl
reply_back_lem (Ok (reply.Holds n)) secret = refl

pub reply_tells : (a b : Result Reply Refusal) (s t : List ℕ) → reply_of a s ≡ reply_of b t → a ≡ b
reply_tells a b s t e = sym (reply_back_lem a s) ∙ (ap reply_back e ∙ reply_back_lem b t)

abbrev change_back : Effect → Change
change_back keep = change.Keep
change_back (add r) = change.Add
change_back (remove j) = change.Remove j

change_back_lem : (c : Change) (r : SessionRecord) → change_back (effect_of c r) ≡ c
change_back_lem change.Keep r = refl
change_back_lem change.Add r = refl
change_back_lem (change.Remove j) r = refl

pub change_tells : (a b : Change) (r s : SessionRecord) → effect_of a r ≡ effect_of b s → a ≡ b
change_tells a b r s e = sym (change_back_lem a r) ∙ (ap change_back e ∙ change_back_lem b s)
