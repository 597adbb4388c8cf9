-- An exported call gives back the step that the call within it gives back.
use Rattle.std.specs.Prelude.{◌≡◌, refl, List, [], ℕ, Result, Ok, Err}
use Rattle.std.proofs.Common.{ap, ◌∙◌}
use Rattle.door.specs.Answers.{reply_of, result_reply, result_secret, secret_beside}
use Rattle.door.specs.declared.Refusal.{Refusal}
use Rattle.door.specs.declared.Reply.{Reply}
use Rattle.door.specs.declared.Reply.TheVariants as reply
use Rattle.unit.specs.Run.{Step}
use Rattle.unit.specs.declared.LinkUnit.{LinkUnit}
use Rattle.unit_step.specs.Steps.{step_of, result_of}
use Rattle.door.specs.declared.Resulted.{Resulted}
use Rattle.host_step.specs.declared.LinkResult.{LinkResult}
use Rattle.host_reply.specs.declared.ReplyNumbers.{ReplyNumbers}
use Rattle.host_step.specs.Replies.{Gives, GivesResult}
use Rattle.host_numbers.specs.Replies.{numbers_of}

pub gives : (t : Result Reply Refusal) (n : ReplyNumbers) (lent : List ℕ) (u : LinkUnit) (s : Step) → n ≡ numbers_of (reply_of t []) → step_of t lent u ≡ s → Gives n lent u s
gives t n lent u s e f = (e ∙ ap (λ (x : Step). numbers_of x.told.reply) f, ap (λ (x : Step). x.told.buffer) f, ap (λ (x : Step). x.unit) f)

-- a result's reply without its secret
abbrev pub bare_reply : Result Resulted Refusal → Result Reply Refusal
bare_reply (Ok r) = Ok r.reply
bare_reply (Err e) = Err e

-- the secret is no part of the numbers
without_secret : (x : Reply) (secret : List ℕ) → numbers_of (reply_of (Ok x) []) ≡ numbers_of (reply_of (Ok x) secret)
unfolding numbers_of
without_secret (reply.Written n) secret = refl
without_secret (reply.Plain n) secret = refl
without_secret (reply.Now p) secret = refl
without_secret (reply.Encrypted role byte again n) secret = refl
without_secret reply.Done secret = refl
without_secret (reply.Holds n) secret = refl

bare_numbers : (t : Result Resulted Refusal) → numbers_of (reply_of (bare_reply t) []) ≡ numbers_of (result_reply t)
bare_numbers (Ok r) = without_secret r.reply r.secret
bare_numbers (Err e) = refl

pub gives_result : (t : Result Resulted Refusal) (n : ReplyNumbers) (lent : List ℕ) (u : LinkUnit) (s : Step) → n ≡ numbers_of (reply_of (bare_reply t) []) → result_of t lent u ≡ s
    → result_secret t ≡ secret_beside s.told.reply → GivesResult (record { reply = n; secret = result_secret t }) lent u s
gives_result t n lent u s e f g =
    (e ∙ (bare_numbers t ∙ ap (λ (x : Step). numbers_of x.told.reply) f), ap (λ (x : Step). x.told.buffer) f, ap (λ (x : Step). x.unit) f, g)
