-- `host_b_option` meets its contract.
use mathlib.Core.Path.{◌∙◌, ap}
use Rattle.std.proofs.Common.{ℕ, List, Bor}
use Rattle.eno.specs.Judge.{of_b}
use Rattle.judgement.proofs.Steps.{by_b}
use Rattle.judgement.proofs.host_b_option.Goals as goal

pub returns : goal.returns
unfolding of_b
returns c =
    let h = c.of_b.ensures in
    (ap (λ (r : Bor (List ℕ)). r.now) h ∙ by_b (λ (r : Bor (List ℕ)). r.now) c.args.own_is_b c.args.own c.args.peer, ap (λ (r : Bor (List ℕ)). r.ref_ptr) h ∙ by_b (λ (r : Bor (List ℕ)). r.ref_ptr) c.args.own_is_b c.args.own c.args.peer)
