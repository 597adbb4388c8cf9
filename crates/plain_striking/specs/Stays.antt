-- Which suboptions of a list stay.
use Rattle.std.specs.Prelude.{ℕ, ◌%◌, Bool, ◌&&◌}
use Rattle.std.proofs.Math.Option.{Option}
use Rattle.eno.specs.Judge.{Way}
use Rattle.suboption_list.specs.declared.SuboptionItem.{SuboptionItem}
use Rattle.plain_striking.specs.Striking.{is_valid}

-- a suboption that is not struck: a TEP that is valid
unfoldable pub stays : (ℕ → Option Way) → SuboptionItem → Bool
stays valid x = x.is_tep && is_valid (valid (x.byte % 128))
