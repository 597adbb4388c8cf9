-- The loop of `frame_nonce::nonce`: the bytes so far are mixed.
use Rattle.wire.specs.Frame.{frame_id}
use Rattle.frame_nonce.proofs.Nonces.{Mixed}
use Rattle.frame_nonce.proofs.nonce.Given as goal

abbrev pub invariant-loop-i : goal.invariant-loop-i
invariant-loop-i l = Mixed l.fixed (frame_id l.offset) l.made l.i
