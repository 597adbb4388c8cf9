-- `host_a_option` meets its contract.
use mathlib.Core.Path.{◌∙◌, ap}
use Rattle.std.proofs.Common.{ℕ, List, Bor}
use Rattle.eno.specs.Judge.{of_a}
use Rattle.judgement.proofs.Steps.{by_a}
use Rattle.judgement.proofs.host_a_option.Goals as goal

pub returns : goal.returns
unfolding of_a
returns c =
    let h = c.of_a.ensures in
    (ap (λ (r : Bor (List ℕ)). r.now) h ∙ by_a (λ (r : Bor (List ℕ)). r.now) c.args.own_is_b c.args.own c.args.peer, ap (λ (r : Bor (List ℕ)). r.ref_ptr) h ∙ by_a (λ (r : Bor (List ℕ)). r.ref_ptr) c.args.own_is_b c.args.own c.args.peer)
