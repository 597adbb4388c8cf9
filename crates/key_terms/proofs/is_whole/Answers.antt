-- `key_terms::is_whole` meets its contract.
use native.Mathlib.Omega.{arith}
use Rattle.key_terms.proofs.Wholes.{whole_short, whole_long, whole_other, whole_is}
use Rattle.key_terms.proofs.is_whole.Goals as goal

pub returns-then-n-lt2 : goal.returns-then-n-lt2
returns-then-n-lt2 c = whole_short _ (omega arith)

pub returns-then-n-gt40 : goal.returns-then-n-gt40
returns-then-n-gt40 c = whole_long _ (omega arith)

pub returns-then-option-ne69 : goal.returns-then-option-ne69
returns-then-option-ne69 c = whole_other _ (λ e. omega arith)

pub returns : goal.returns
returns c = whole_is _ (omega arith) (omega arith) _ c.wide.ensures
