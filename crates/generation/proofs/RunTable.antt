-- Runs of generation records, worked out: one table and one claim about all rows, closed by computation.
use Rattle.std.specs.Prelude.{◌≡◌, refl, map}
use Rattle.refusals.specs.Rows.{refusal}
use Rattle.generation.specs.Steps.{first, most_generation, is_above, owed, sending, raised, following, receiving, unless, would_pass, outcome}
use Rattle.generation.specs.Connection.{after}
use Rattle.generation.specs.RunTable.{Run, Result, replies, result, table}

pub run_table : map (λ (r : Run × Result). result r.0) table ≡ map (λ (r : Run × Result). r.1) table
unfolding table result replies after outcome unless refusal sending is_above owed raised following receiving would_pass most_generation first
run_table = refl
