-- `list` meets its contract: the loop's invariant is `Listing`, and each way through the loop is one of its laws.
use Prim.Native.Nat.{◌-◌}
use mathlib.Core.Path.{refl, sym, ◌∙◌, ap}
use native.Mathlib.Omega.{arith}
use Rattle.suboption.specs.Piece.{piece_of}
use Rattle.suboption_list.proofs.Laws.{list_beyond}
use Rattle.suboption_lister.proofs.Listing.{listing_start, listing_onward, listing_room, listing_more, listing_fits, listing_ill_formed, listing_end}
use Rattle.suboption_lister.proofs.list.Goals as goal

-- what stands at the place

pub returns-then-option-gt40 : goal.returns-then-option-gt40
returns-then-option-gt40 c = c.broken.ensures ∙ sym (list_beyond _ (omega arith))

pub loop-items-init : goal.loop-items-init
loop-items-init c = listing_start _ _ c.global_item-none.ensures (omega arith)

pub suboption_at-p-requires : goal.suboption_at-p-requires
suboption_at-p-requires c = tt

pub returns-in-End : goal.returns-in-End
returns-in-End c = listing_end _ c.loop-items.invariant (sym ((c.suboption_at-p.ensures)) ∙ ap piece_of c.in-End.is)

pub returns-in-IllFormed : goal.returns-in-IllFormed
returns-in-IllFormed c = c.broken-in-IllFormed.ensures ∙ listing_ill_formed _ c.loop-items.invariant (sym ((c.suboption_at-p.ensures)) ∙ ap piece_of c.in-IllFormed.is)

pub offset_bounds-items-count : goal.offset_bounds-items-count
offset_bounds-items-count c = let h = listing_room _ c.loop-items.invariant (sym ((c.suboption_at-p.ensures)) ∙ ap piece_of c.in-Global.is) in omega arith

pub bounds-items-count : goal.bounds-items-count
bounds-items-count c = let h = listing_room _ c.loop-items.invariant (sym ((c.suboption_at-p.ensures)) ∙ ap piece_of c.in-Global.is) in omega arith

pub overflow_add-count : goal.overflow_add-count
overflow_add-count c = let h = listing_room _ c.loop-items.invariant (sym ((c.suboption_at-p.ensures)) ∙ ap piece_of c.in-Global.is) in omega arith

pub loop-items-smaller-in-Global : goal.loop-items-smaller-in-Global
loop-items-smaller-in-Global c = let h = listing_onward _ c.loop-items.invariant (sym ((c.suboption_at-p.ensures)) ∙ ap piece_of c.in-Global.is) in omega arith

pub loop-items-preserved-in-Global : goal.loop-items-preserved-in-Global
loop-items-preserved-in-Global c = listing_more _ c.loop-items.invariant (sym ((c.suboption_at-p.ensures)) ∙ ap piece_of c.in-Global.is) _ c.global_item-one.ensures _ refl

pub overflow_cast-from : goal.overflow_cast-from
overflow_cast-from c = let h = listing_fits _ c.loop-items.invariant (sym ((c.suboption_at-p.ensures)) ∙ ap piece_of c.in-Tep.is) in omega arith

pub overflow_cast-size : goal.overflow_cast-size
overflow_cast-size c = let h = listing_fits _ c.loop-items.invariant (sym ((c.suboption_at-p.ensures)) ∙ ap piece_of c.in-Tep.is) in omega arith

pub offset_bounds-items-count-in-Tep : goal.offset_bounds-items-count-in-Tep
offset_bounds-items-count-in-Tep c = let h = listing_room _ c.loop-items.invariant (sym ((c.suboption_at-p.ensures)) ∙ ap piece_of c.in-Tep.is) in omega arith

pub bounds-items-count-in-Tep : goal.bounds-items-count-in-Tep
bounds-items-count-in-Tep c = let h = listing_room _ c.loop-items.invariant (sym ((c.suboption_at-p.ensures)) ∙ ap piece_of c.in-Tep.is) in omega arith

pub overflow_add-count-in-Tep : goal.overflow_add-count-in-Tep
overflow_add-count-in-Tep c = let h = listing_room _ c.loop-items.invariant (sym ((c.suboption_at-p.ensures)) ∙ ap piece_of c.in-Tep.is) in omega arith

pub loop-items-smaller : goal.loop-items-smaller
loop-items-smaller c = let h = listing_onward _ c.loop-items.invariant (sym ((c.suboption_at-p.ensures)) ∙ ap piece_of c.in-Tep.is) in omega arith

pub loop-items-preserved : goal.loop-items-preserved
loop-items-preserved c = listing_more _ c.loop-items.invariant (sym ((c.suboption_at-p.ensures)) ∙ ap piece_of c.in-Tep.is) _ refl _ refl
