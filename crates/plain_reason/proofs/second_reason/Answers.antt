-- `plain_reason::second_reason` meets its contract.
use Rattle.std.specs.Prelude.{Some}
use Rattle.std.proofs.Common.{◌∙◌, ap}
use Rattle.plain_reason.proofs.Second.{second_absent, second_ill, second_same, second_altered}
use Rattle.plain_reason.proofs.second_reason.Goals as goal

pub returns-in-Some : goal.returns-in-Some
returns-in-Some c = second_absent _ _ _ c.absence.ensures _ c.in-Some.is

pub returns-then-summarize : goal.returns-then-summarize
returns-then-summarize c = ap (λ x. Some x) c.numbered.ensures ∙ second_ill _ _ _ c.absence.ensures c.in_default.is _ c.find_option-option.ensures.0 _ c.summarize.ensures c.if-summarize.true

pub returns-then-same : goal.returns-then-same
returns-then-same c = second_same _ _ _ c.absence.ensures c.in_default.is _ c.find_option-option.ensures.0 _ c.summarize.ensures c.if-summarize.false _ c.kept_length.ensures.0 _ c.same.ensures c.if-same.true

pub returns-else-same : goal.returns-else-same
returns-else-same c = ap (λ x. Some x) c.numbered-else-same.ensures ∙ second_altered _ _ _ c.absence.ensures c.in_default.is _ c.find_option-option.ensures.0 _ c.summarize.ensures c.if-summarize.false _ c.kept_length.ensures.0 _ c.same.ensures c.if-same.false
