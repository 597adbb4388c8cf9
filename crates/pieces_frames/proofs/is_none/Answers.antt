-- `pieces_frames::is_none` meets its contract.
use Rattle.std.specs.Prelude.{◌≡◌, ℕ, Bool, true, false, not, Option, Some, None, is_some}
use Rattle.std.proofs.Common.{sym}
use Rattle.frame_layout.specs.Layout.{no_frame}
use Rattle.frame_layout.specs.Calls.{next, outcome}
use Rattle.frame_layout.specs.Answers.{next_told}
use Rattle.frame_offset.proofs.Next.{none_told, next_told_lem}
use Rattle.pieces_frames.proofs.is_none.Goals as goal

none_is : (offset clen : ℕ) (r : Option ℕ) (b : Bool) → is_some r ≡ not b → next_told r ≡ outcome (next offset clen) → b ≡ no_frame offset clen
none_is offset clen None true q e = sym (none_told offset clen e)
none_is offset clen None false q e = cc
none_is offset clen (Some m) true q e = cc
none_is offset clen (Some m) false q e = sym (next_told_lem offset clen m e).0

pub returns : goal.returns
returns c = none_is _ _ _ _ c.is_none.ensures c.next_offset.ensures
