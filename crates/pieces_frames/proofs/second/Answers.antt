-- `pieces_frames::second` meets its contract.
use mathlib.Core.Path.{sym, ◌∙◌}
use native.Mathlib.Omega.{arith}
use Rattle.pieces_frames.specs.HeaderWays.{room_behind, second_stops, second_waits, second_goes}
use Rattle.pieces_frames.proofs.second.Goals as goal

pub returns-then-is_none : goal.returns-then-is_none
returns-then-is_none c = let a = c.args in second_stops a.numbers.now a.at a.control a.high a.piece.now a.i _ _ c.less-offset.ensures c.least_length-least.ensures _ c.is_none.ensures c.if-is_none.true c.stop.result _ c.stop.ensures

pub overflow_add-position : goal.overflow_add-position
overflow_add-position c = let fits = room_behind _ _ (sym c.is_none.ensures ∙ c.if-is_none.false) in omega arith

pub returns-then-piece-used : goal.returns-then-piece-used
returns-then-piece-used c = let a = c.args in second_waits a.numbers.now a.at a.control a.high a.piece.now a.i _ _ c.less-offset.ensures c.least_length-least.ensures _ c.is_none.ensures c.if-is_none.false c.requires.0 (omega arith) (omega arith) _ _ _ _ (omega arith) c.waiting.ensures c.wide-first.ensures c.wide-next.ensures c.set_numbers.ensures

pub returns : goal.returns
returns c = let a = c.args in second_goes a.numbers.now a.at a.control a.high a.piece.now a.i _ _ c.less-offset.ensures c.least_length-least.ensures _ c.is_none.ensures c.if-is_none.false c.requires.0 (omega arith) (omega arith) c.third.result _ (omega arith) c.third.ensures
