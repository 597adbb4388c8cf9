-- `option_arguments::is_listed` meets its contract. The loop's invariant: t is listed if it is in what follows the first i.
use Rattle.std.proofs.Common.{◌≡◌, drop}
use Rattle.eno.specs.Option.{is_listed}
use Rattle.option_arguments.proofs.is_listed.Given as goal

abbrev pub invariant-loop-listed : goal.invariant-loop-listed
invariant-loop-listed l = is_listed l.t l.list ≡ is_listed l.t (drop l.listed-index l.list)
