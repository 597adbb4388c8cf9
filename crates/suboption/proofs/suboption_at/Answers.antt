-- `suboption_at` meets its contract.
use native.Mathlib.Omega.{arith}
use Rattle.eno.proofs.Laws.Suboption.{suboption_end, suboption_global, suboption_bare, suboption_to_end, suboption_no_tep, suboption_cut, suboption_over, suboption_counted}
use Rattle.suboption.proofs.suboption_at.Goals as goal

pub returns-then-option-i : goal.returns-then-option-i
returns-then-option-i c = suboption_end _ _ (omega arith)

pub returns-then-x-lt32 : goal.returns-then-x-lt32
returns-then-x-lt32 c = suboption_global _ _ (omega arith) (omega arith)

pub returns-then-x-lt128 : goal.returns-then-x-lt128
returns-then-x-lt128 c = suboption_bare _ _ (omega arith) (omega arith) (omega arith)

pub returns-then-x-ge160 : goal.returns-then-x-ge160
returns-then-x-ge160 c = suboption_to_end _ _ (omega arith) (omega arith)

pub returns-then-option-j : goal.returns-then-option-j
returns-then-option-j c = suboption_cut _ _ (omega arith) (omega arith) (omega arith) (omega arith)

pub returns-then-y-lt160 : goal.returns-then-y-lt160
returns-then-y-lt160 c = suboption_no_tep _ _ (omega arith) (omega arith) (omega arith) (omega arith)

pub returns-then-option-k : goal.returns-then-option-k
returns-then-option-k c = suboption_over _ _ (omega arith) (omega arith) (omega arith) (omega arith) (omega arith)

pub returns : goal.returns
returns c = suboption_counted _ _ (omega arith) (omega arith) (omega arith) (omega arith) _ _ (omega arith) (omega arith) (omega arith)
