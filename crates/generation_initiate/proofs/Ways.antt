-- Each way out of initiating rekeying is what the definition says. Assumes nothing.
use Prim.Native.Nat.{◌≤◌, ◌<◌}
use mathlib.Core.Path.{◌≡◌, ◌∙◌}
use mathlib.Core.Bool.{Bool, true, false, not, ◌&&◌}
use lib.Dec.{ltb}
use Rattle.refusals.specs.Rows.{refusal}
use Rattle.generation.specs.Steps.{initiate, owed, sending, raised, unless, outcome}
use Rattle.generation.specs.Answers.{step_of}
use Rattle.generation.specs.declared.GenerationRecord.{GenerationRecord}
use Rattle.generation.specs.declared.GenerationRefusal.TheVariants as a
use Rattle.std.specs.Prelude.{Ok, Err}
use Rattle.generation.specs.declared.GenerationStep.{GenerationStep}
use Rattle.generation.proofs.Passing.{passes, passes_not}

module _ (g : GenerationRecord) where
  module _ (has_data fin : Bool) where
    pub initiate_owed : owed g ≡ true → step_of g (Err a.Owed) ≡ outcome g (initiate has_data fin)
    unfolding outcome unless refusal
    initiate_owed e = rw e

    module _ (none-owed : owed g ≡ false) where
      pub initiate_past : 65535 ≤ g.local → step_of g (Err a.PastLast) ≡ outcome g (initiate has_data fin)
      unfolding outcome unless refusal
      initiate_past h = rw (none-owed, passes g.local h)

      module _ (below : g.local < 65535) where
        pub initiate_finished : g.fin ≡ true → step_of g (Err a.Finished) ≡ outcome g (initiate has_data fin)
        unfolding outcome unless refusal
        initiate_finished e = rw (none-owed, passes_not g.local below, e)

        module _ (unfinished : g.fin ≡ false) where
          pub initiate_unanswered : not has_data && ltb g.remote g.local ≡ true → step_of g (Err a.Unanswered) ≡ outcome g (initiate has_data fin)
          unfolding outcome unless refusal
          initiate_unanswered e = rw (none-owed, passes_not g.local below, unfinished, e)

          pub initiate_goes : not has_data && ltb g.remote g.local ≡ false → (x : GenerationStep) → step_of g (Ok x) ≡ sending (raised g) fin → step_of g (Ok x) ≡ outcome g (initiate has_data fin)
          unfolding outcome unless refusal
          initiate_goes e x p = p ∙ (rw (none-owed, passes_not g.local below, unfinished, e))
