-- What an accepted offer or answer writes shows which record it took.
use Rattle.std.specs.Prelude.{ℕ, ◌⊎◌, Bool, ◌&&◌, ◌||◌, ◌∷◌, ◌++◌, length, take}
use Rattle.std.proofs.Math.Path.{◌≡◌}
use Rattle.std.proofs.Common.{◌∙◌}
use Rattle.eno.specs.Area.{syn_option}
use Rattle.eno.specs.Session.{in_hand}
use Rattle.eno.specs.declared.SessionRecord.{SessionRecord}
use Rattle.door.specs.Door.{Seen}
use Rattle.door.specs.Outcome.{Outcome}
use Rattle.door.specs.Calls as door
use Rattle.unit.specs.Seen.{TakenAsWritten, less_resumed}

abbrev pub Whole : SessionRecord → Type 0
Whole r = length r.identifier ≡ 18

-- what an accepted offer or answer that came to x shows: the record that it took, and the records that stay
pub record Shown (v : Seen) (fits : ℕ → SessionRecord → Bool) (n : ℕ) (x : Outcome) : Type 0 where
  pub taken : TakenAsWritten (syn_option (take n x.buffer)) (in_hand x.door.hand)
  pub stay : less_resumed (syn_option (take n x.buffer)) fits v.held ≡ (door.after v x).held
