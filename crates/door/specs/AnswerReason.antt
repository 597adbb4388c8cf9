-- An answer's reason is the judge's: where an answer ends in Plain, the judge gives the same cause for every option that this answer could have written.
use Rattle.std.specs.Prelude.{◌+◌, ◌≡◌, ◌&&◌, ◌||◌, ◌↔◌}
use Rattle.std.proofs.Common.{◌∙◌}
use mathlib.Core.List.{◌∷◌}
use Rattle.std.proofs.Math.Option.{Option, none, some}
use Rattle.eno.specs.Judge as judged
use Rattle.eno.specs.Judge.{Judged}
use Rattle.eno.specs.declared.Cause.{Cause}
use Rattle.door.specs.Outcome.{plain}

-- a cause where there is one, else the rest
abbrev pub cause_or : Option Cause → Judged → Judged
cause_or none j = j
cause_or (some c) j = judged.plain c
