-- Laws of the entry of a TEP.
use Rattle.std.specs.Prelude.{ℕ, ◌-◌, ◌≤◌, ◌<◌, ◌≡◌, List, cond, get_or}
use Rattle.std.proofs.Common.{sym}
use Rattle.eno.specs.Tep.{is_known}
use Rattle.eno.proofs.Laws.Tep.{known_yes, known_below, known_above}
use Rattle.suboptions.specs.Summary.{never}
use Rattle.suboptions.specs.declared.Entry.{Entry}
use Rattle.tep_choice.specs.Choosing.{entry_of}

module _ (es : List Entry) (t : ℕ) where
  pub entry_below : t < 0x21 → never ≡ entry_of es t
  unfolding entry_of
  entry_below h = simp (sym (known_below t h))

  pub entry_above : 0x24 < t → never ≡ entry_of es t
  unfolding entry_of
  entry_above h = simp (sym (known_above t h))

  pub entry_there : 0x21 ≤ t → t ≤ 0x24 → get_or es (t - 0x21) never ≡ entry_of es t
  unfolding entry_of
  entry_there low high = simp (sym (known_yes t low high))
