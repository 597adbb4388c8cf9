-- `after_judging` meets its contract.
use Rattle.eno.proofs.Laws.Found.{found_short}
use Rattle.segment_judging.proofs.Judging.{judged_refused, judged_plain, judged_encrypted}
use Rattle.segment_judging.proofs.after_judging.Goals as goal

pub judged_door-requires : goal.judged_door-requires
judged_door-requires c = found_short _ _ _ c.find_option-option.ensures.0

pub returns-in-Refused : goal.returns-in-Refused
returns-in-Refused c = judged_refused c.args.door c.args.opens _ _ c.kept_length.ensures.0 _ c.judge-judgement.ensures c.in-Refused.is

pub returns-in-Plain : goal.returns-in-Plain
returns-in-Plain c = judged_plain c.args.door c.args.opens _ _ c.kept_length.ensures.0 _ c.judge-judgement.ensures _ c.in-Plain.is _ c.cause_of.ensures _ c.plain_door.ensures

pub returns-in-Encrypted : goal.returns-in-Encrypted
returns-in-Encrypted c = judged_encrypted c.args.door c.args.opens _ _ c.kept_length.ensures.0 _ c.judge-judgement.ensures _ _ _ c.in-Encrypted.is _ c.find_option-option.ensures.0 _ c.judged_door.ensures _ c.open_if.ensures
