-- `opening::hand_at` meets its contract.
use mathlib.Core.Path.{refl, ◌∙◌}
use native.Mathlib.Omega.{arith}
use Rattle.door.specs.Numbers.{each_n}
use Rattle.opening.proofs.Held.{hand_there, hand_none}
use Rattle.opening.proofs.hand_at.Goals as goal

pub offset_bounds-view-j : goal.offset_bounds-view-j
unfolding each_n
offset_bounds-view-j c = omega arith

pub bounds-view-j : goal.bounds-view-j
unfolding each_n
bounds-view-j c = omega arith

pub returns-then-j-held_count : goal.returns-then-j-held_count
returns-then-j-held_count c = hand_there _ _ c.held_count.ensures _ (omega arith) _ refl refl

pub returns : goal.returns
returns c = c.empty_hand.ensures ∙ hand_none _ _ c.held_count.ensures _ (omega arith)
