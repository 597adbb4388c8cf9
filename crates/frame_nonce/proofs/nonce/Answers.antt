-- `frame_nonce::nonce` meets its contract.
use Rattle.std.proofs.Common.{arith}
use Rattle.wire.specs.FrameLaws.{frame_id_twelve}
use Rattle.frame_nonce.proofs.Nonces.{mixed_none, mixed_more, nonce_unfit, nonce_made}
use Rattle.frame_nonce.proofs.nonce.Goals as goal

pub returns-then-fixed-ne12 : goal.returns-then-fixed-ne12
returns-then-fixed-ne12 c = nonce_unfit _ _ (λ e. omega arith)

pub loop-i-init : goal.loop-i-init
loop-i-init c = mixed_none _ _ _ c.frame_id-made.ensures (frame_id_twelve _)

pub loop-i-preserved : goal.loop-i-preserved
loop-i-preserved c = mixed_more _ _ _ _ c.loop-i.invariant (omega arith)

pub returns : goal.returns
returns c = nonce_made _ _ (omega arith) _ _ (omega arith) c.loop-i.invariant
