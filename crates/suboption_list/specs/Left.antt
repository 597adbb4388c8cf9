-- What is left of a list from a place on, for the questions that are asked of it place by place. Assumes nothing.
use Prim.Native.Nat.{ℕ, ◌+◌, ◌-◌, ◌≤◌, ◌<◌}
use Rattle.std.specs.Prelude.{◌≡◌, ◌∷◌, get_or}
use Rattle.std.proofs.Common.{◌∙◌}
use Rattle.suboption_list.specs.List.{filler}
use Rattle.suboption_list.specs.declared.SuboptionItem.{SuboptionItem}
use Rattle.suboption_list.specs.declared.SuboptionList.{SuboptionList}

-- the item at a place
abbrev pub at : SuboptionList → ℕ → SuboptionItem
at l i = get_or l.items i filler
