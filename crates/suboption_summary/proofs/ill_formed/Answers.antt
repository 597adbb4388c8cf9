-- `ill_formed` meets its contract.
use mathlib.Core.Path.{ap}
use lib.ListN.{replicate}
use mathlib.Core.Bool.{true, false}
use Rattle.suboptions.specs.declared.Entry.{Entry}
use Rattle.suboptions.specs.declared.Summary.{Summary}
use Rattle.suboption_summary.proofs.ill_formed.Goals as goal

-- what is returned, by the entry that each TEP gets

abbrev told : Entry → Summary
told e = record { ill_formed = true; role = 0; aware = false; teps = replicate 4 e }

pub returns : goal.returns
returns c = ap told c.never.ensures
