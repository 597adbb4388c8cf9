-- `broken` meets its contract.
use mathlib.Core.Path.{ap}
use mathlib.Core.Bool.{true}
use lib.ListN.{replicate}
use Rattle.suboption_list.specs.List.{most_items}
use Rattle.suboption_list.specs.declared.SuboptionItem.{SuboptionItem}
use Rattle.suboption_list.specs.declared.SuboptionList.{SuboptionList}
use Rattle.suboption_lister.proofs.broken.Goals as goal

-- what is returned, by what fills the array

abbrev told : SuboptionItem → SuboptionList
told x = record { ill_formed = true; count = 0; items = replicate most_items x }

pub returns : goal.returns
returns c = ap told c.global_item-none.ensures
