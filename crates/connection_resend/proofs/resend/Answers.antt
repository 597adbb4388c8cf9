-- `connection_resend::resend` meets its contract.
use Rattle.door_data.specs.Laws.{own_taken}
use Rattle.connection_resend.proofs.Resending.{resend_out, resend_short, resend_written}
use Rattle.connection_resend.proofs.resend.Goals as goal

pub returns-then-not-may_send : goal.returns-then-not-may_send
returns-then-not-may_send c = resend_out _ _ _ c.phase_of.ensures _ c.may_send.ensures c.if-not-may_send.true

pub returns-then-out-own : goal.returns-then-out-own
returns-then-out-own c = resend_short _ _ _ c.phase_of.ensures _ c.may_send.ensures c.if-not-may_send.false _ (own_taken _ _ c.kept_length.ensures.0) c.if-out-own.true

pub returns : goal.returns
returns c = resend_written _ _ _ c.phase_of.ensures _ c.may_send.ensures c.if-not-may_send.false _ (own_taken _ _ c.kept_length.ensures.0) c.if-out-own.false _ c.copy.ensures
