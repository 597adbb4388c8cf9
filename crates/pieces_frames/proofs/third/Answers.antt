-- `pieces_frames::third` meets its contract.
use mathlib.Core.Path.{refl, sym, ◌∙◌, ap}
use native.Mathlib.Omega.{arith}
use Rattle.frame_layout.specs.Layout.{bit0}
use Rattle.frame_layout.specs.Answers.{next_told}
use Rattle.frame_offset.proofs.Next.{none_told, next_told_lem}
use Rattle.pieces_frames.specs.HeaderWays.{room_behind, third_stops, third_heads}
use Rattle.pieces_frames.proofs.third.Goals as goal

pub overflow_add-begins : goal.overflow_add-begins
overflow_add-begins c = let fits = room_behind _ _ (next_told_lem _ _ _ (ap next_told (sym c.in-Some.is) ∙ c.next_offset-after.ensures)).0 in omega arith

pub returns-in-None : goal.returns-in-None
returns-in-None c = third_stops _ _ _ _ _ _ _ c.less-offset.ensures (omega arith) c.stop.result _ _ (none_told _ _ (ap next_told (sym c.in-None.is) ∙ c.next_offset-after.ensures)) c.stop.ensures

pub returns-in-Some : goal.returns-in-Some
unfolding bit0
returns-in-Some c = let told = next_told_lem _ _ _ (ap next_told (sym c.in-Some.is) ∙ c.next_offset-after.ensures) in let a = c.args in third_heads a.numbers.now a.at a.control a.high a.low _ _ c.less-offset.ensures (omega arith) c.requires.0 _ _ a.used _ told.0 told.1 refl c.set_numbers.ensures
