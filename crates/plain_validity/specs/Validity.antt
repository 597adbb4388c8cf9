-- Whether a TEP is valid, by the TEPs that each side sent.
use Rattle.std.specs.Prelude.{ℕ, ◌≡◌, List, cond, eqb}
use Rattle.std.proofs.Common.{◌∙◌}
use Rattle.std.proofs.Math.Option.{Option, none}
use Rattle.eno.specs.Suboption.{Sent}
use Rattle.eno.specs.Tep.{is_known}
use Rattle.eno.specs.Judge.{Way, named, once, Sides, way_of_both}

-- where the sent half begins in the identifier
unfoldable pub sent_from : ℕ → ℕ
sent_from role = cond (eqb role 0) 0 9

-- `validity` of lists that are given
unfoldable pub validity_in : Sides → (mine theirs : List Sent) → ℕ → Option Way
validity_in s mine theirs t = cond (is_known t) (way_of_both s t (once (named t mine)) (once (named t theirs))) none
