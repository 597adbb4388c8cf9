-- Refused exactly with 3, and then all zeros: for any arguments, whatever the transcript. Assumes nothing.
use Rattle.std.specs.Prelude.{ℕ, ◌%◌, List, [], ◌∷◌, Bool, ◌||◌, ltb, eqb, length}
use Rattle.std.proofs.Math.Bool.{not}
use Rattle.std.proofs.Math.Option.{Option, none, some}
use Rattle.refusals.specs.Rows.{marked}
use Rattle.eno.specs.Tep.{is_known}
use Rattle.key_terms.specs.Calls.{Says, refused, resumed, no_terms}

-- 3: role not 0 or 1; TEP unknown; identifier of another length
unfoldable pub number3 : (role tep : ℕ) (identifier : List ℕ) → Bool
number3 role tep identifier = ltb 1 role || not (is_known (tep % 128)) || not (eqb (length identifier) 18)

-- the numbers that apply
unfoldable pub rows : (role tep : ℕ) (identifier : List ℕ) → List (Bool × ℕ)
rows role tep identifier = (number3 role tep identifier, 3) ∷ []

unfoldable pub applies : (role tep : ℕ) (identifier : List ℕ) → ℕ → Bool
applies role tep identifier n = marked n (rows role tep identifier)

-- the number of a refusal
abbrev pub refused_by : Says → Option ℕ
refused_by (refused n) = some n
refused_by resumed = none
refused_by no_terms = none
