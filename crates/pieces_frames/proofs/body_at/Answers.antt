-- `pieces_frames::body_at` meets its contract.
use mathlib.Core.Path.{refl}
use native.Mathlib.Omega.{arith}
use Rattle.pieces_frames.specs.BodyLaws.{body_on, body_over, body_none, body_past}
use Rattle.pieces_frames.proofs.body_at.Goals as goal

pub returns-then-n-left : goal.returns-then-n-left
returns-then-n-left c = let a = c.args in body_on a.numbers.now a.piece.now a.at a.begins a.ends _ c.requires (omega arith) c.waiting.ensures

pub returns-then-at-ends : goal.returns-then-at-ends
returns-then-at-ends c = let a = c.args in body_over a.numbers.now a.piece.now a.at a.begins a.ends _ _ c.requires (omega arith) refl (omega arith) c.set_numbers.ensures

pub returns-then-n-eq0 : goal.returns-then-n-eq0
returns-then-n-eq0 c = let a = c.args in body_none a.numbers.now a.piece.now a.at a.begins a.ends _ (omega arith) c.waiting-then-n-eq0.ensures

pub returns : goal.returns
returns c = let a = c.args in body_past a.numbers.now a.piece.now a.at a.begins a.ends _ c.requires (omega arith) c.if-n-eq0.false c.set_numbers-2.ensures
