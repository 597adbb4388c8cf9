-- `tep_choice::choose` meets its contract.
use Rattle.tep_choice.proofs.First.{chosen_resumed, chosen_fresh}
use Rattle.tep_choice.proofs.choose.Goals as goal

pub returns-in-Some : goal.returns-in-Some
returns-in-Some c = chosen_resumed _ _ _ _ _ c.in-Some.ensures

pub returns-in-None : goal.returns-in-None
returns-in-None c = chosen_fresh _ _ _ _ _ _ _ c.in-None.ensures c.last_fresh.ensures c.numbered.ensures c.ok_or.ensures.value
