-- `key_terms::resumption_terms` meets its contract.
use mathlib.Core.Path.{refl, sym}
use lib.Seq.{length-take-le}
use native.Mathlib.Omega.{arith}
use Rattle.key_terms.proofs.Cutting.{unfit_role, unfit_tep, unfit_identifier, no_second_byte, cut_short, at_a, at_b}
use Rattle.key_terms.proofs.resumption_terms.Goals as goal

pub returns-then-role-gt1 : goal.returns-then-role-gt1
returns-then-role-gt1 c = unfit_role _ _ _ _ (omega arith) _ refl

pub returns-then-is_none : goal.returns-then-is_none
returns-then-is_none c = unfit_tep _ _ _ _ (omega arith) (grind arith) _ refl

pub returns-then-identifier-ne18 : goal.returns-then-identifier-ne18
returns-then-identifier-ne18 c = unfit_identifier _ _ _ _ (omega arith) (grind arith) (λ e. omega arith) _ refl

pub returns-then-transcript-lt2 : goal.returns-then-transcript-lt2
returns-then-transcript-lt2 c = no_second_byte _ _ _ _ (omega arith) (grind arith) (omega arith) (omega arith) _ refl

pub returns-then-transcript-n : goal.returns-then-transcript-n
returns-then-transcript-n c = cut_short _ _ _ _ (omega arith) (grind arith) (omega arith) (omega arith) _ c.wide-n.ensures (omega arith) _ refl

pub slice_bounds-terms_by-end : goal.slice_bounds-terms_by-end
slice_bounds-terms_by-end c = sym (length-take-le _ _ (omega arith))

pub slice_bounds-terms_by-end-else-role-eq0-2 : goal.slice_bounds-terms_by-end-else-role-eq0-2
slice_bounds-terms_by-end-else-role-eq0-2 c = sym (length-take-le _ _ (omega arith))

pub returns-then-role-eq0 : goal.returns-then-role-eq0
returns-then-role-eq0 c = at_a _ _ _ _ (omega arith) (grind arith) (omega arith) _ c.wide-n.ensures _ _ refl refl (omega arith) _ c.terms_by.ensures

pub returns-else-role-eq0 : goal.returns-else-role-eq0
returns-else-role-eq0 c = at_b _ _ _ _ (omega arith) (grind arith) (omega arith) _ c.wide-n.ensures _ _ refl refl (λ e. omega arith) _ c.terms_by-else-role-eq0.ensures
