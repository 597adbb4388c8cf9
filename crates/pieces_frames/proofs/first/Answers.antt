-- `pieces_frames::first` meets its contract.
use mathlib.Core.Path.{sym, ◌∙◌}
use native.Mathlib.Omega.{arith}
use Rattle.pieces_frames.specs.HeaderWays.{room_behind, first_stops, first_waits, first_goes}
use Rattle.pieces_frames.proofs.first.Goals as goal

pub returns-then-is_none : goal.returns-then-is_none
returns-then-is_none c = let a = c.args in first_stops a.numbers.now a.at a.control a.piece.now _ c.is_none.ensures c.if-is_none.true c.stop.result _ c.stop.ensures

pub overflow_add-position : goal.overflow_add-position
overflow_add-position c = let fits = room_behind _ _ (sym c.is_none.ensures ∙ c.if-is_none.false) in omega arith

pub returns-then-piece-le1 : goal.returns-then-piece-le1
returns-then-piece-le1 c = let a = c.args in first_waits a.numbers.now a.at a.control a.piece.now _ c.is_none.ensures c.if-is_none.false c.requires.0 (omega arith) _ _ _ (omega arith) c.waiting.ensures c.wide-first.ensures c.set_numbers.ensures

pub returns : goal.returns
returns c = let a = c.args in first_goes a.numbers.now a.at a.control a.piece.now _ c.is_none.ensures c.if-is_none.false c.requires.0 (omega arith) c.second.result _ (omega arith) c.second.ensures
