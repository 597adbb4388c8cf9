-- `judge_call::verdict_numbers` meets its contract.
use Prim.Native.Nat.{ℕ}
use mathlib.Core.Path.{◌∙◌, ap}
use mathlib.Core.List.{[]}
use Rattle.judgement.specs.Answers.{judged_of}
use Rattle.judgement.specs.declared.Verdict.{Verdict}
use Rattle.host_reply.specs.Numbers.{plain_numbers}
use Rattle.host_judge_numbers.specs.Replies.{judged_numbers}
use Rattle.host_reply.specs.declared.ReplyNumbers.{ReplyNumbers}
use Rattle.host_reply.specs.Telling.{told}
use Rattle.host_judge_numbers.proofs.Judging.{flag_way}
use Rattle.host_judge_numbers.proofs.verdict_numbers.Goals as goal

abbrev view : (n : ℕ) → Verdict → ReplyNumbers
view n x = judged_numbers (judged_of x []) n

abbrev encrypted_of : (n role tep resumed : ℕ) → ReplyNumbers
encrypted_of n role tep resumed = record { number = n; kind = 4; role = role; tep = tep; resumed = resumed; place = 0; option = 0 }

pub returns-in-Refused : goal.returns-in-Refused
unfolding judged_numbers
returns-in-Refused c = told (view _) c.in-Refused.is c.of_kind.ensures

pub returns-in-Plain : goal.returns-in-Plain
unfolding judged_numbers
returns-in-Plain c = told (view _) c.in-Plain.is (c.plain_numbers.ensures ∙ ap plain_numbers c.cause_of-cause.ensures)

pub returns-in-Encrypted : goal.returns-in-Encrypted
unfolding judged_numbers
returns-in-Encrypted c = told (view _) c.in-Encrypted.is (ap (encrypted_of _ _ _) (c.flag_number-again.ensures ∙ flag_way c.in-Encrypted.resumed))
