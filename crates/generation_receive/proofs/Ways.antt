-- Each way out of receiving a frame is what the definition says. Assumes nothing.
use Prim.Native.Nat.{ℕ, ◌+◌, ◌≤◌, ◌<◌}
use mathlib.Core.Path.{◌≡◌, ◌∙◌, ap}
use mathlib.Core.Bool.{Bool, true, false}
use native.Mathlib.Omega.{arith}
use borrow.Author.Tests.{lt-ltb, le-ltb}
use Rattle.refusals.specs.Rows.{refusal}
use Rattle.generation.specs.Steps.{receive, following, receiving, unless, outcome}
use Rattle.generation.specs.Answers.{step_of}
use Rattle.generation.specs.declared.GenerationRecord.{GenerationRecord}
use Rattle.generation.specs.declared.GenerationReply.TheVariants as a
use Rattle.generation.specs.declared.GenerationRefusal.TheVariants as r
use Rattle.std.specs.Prelude.{Ok, Err}
use Rattle.generation.proofs.Passing.{passes, passes_not}

module _ (g : GenerationRecord) where
  pub receive_plain : (rekey : Bool) → rekey ≡ false → step_of g (Ok (record { next = g; reply = a.Received g.remote })) ≡ outcome g (receive rekey)
  unfolding outcome unless refusal receiving
  receive_plain rekey e = rw e

  module _ (rekey : Bool) (asked : rekey ≡ true) where
    pub receive_past : 65535 ≤ g.remote → step_of g (Err r.PastLast) ≡ outcome g (receive rekey)
    unfolding outcome unless refusal
    receive_past h = rw (asked, passes g.remote h)

    module _ (below : g.remote < 65535) (n : ℕ) (more : n ≡ g.remote + 1) where
      pub receive_follows : g.local < n → step_of g (Ok (record { next = record { local = n; remote = n; last = g.last; fin = g.fin }; reply = a.Received n })) ≡ outcome g (receive rekey)
      unfolding outcome unless refusal receiving following
      receive_follows h =
          let k : g.local < g.remote + 1 = omega arith in
          ap (λ m. step_of g (Ok (record { next = record { local = m; remote = m; last = g.last; fin = g.fin }; reply = a.Received m }))) more
          ∙ (rw (asked, passes_not g.remote below, lt-ltb _ _ k))

      pub receive_behind : n ≤ g.local → step_of g (Ok (record { next = record { local = g.local; remote = n; last = g.last; fin = g.fin }; reply = a.Received n })) ≡ outcome g (receive rekey)
      unfolding outcome unless refusal receiving following
      receive_behind h =
          let k : g.remote + 1 ≤ g.local = omega arith in
          ap (λ m. step_of g (Ok (record { next = record { local = g.local; remote = m; last = g.last; fin = g.fin }; reply = a.Received m }))) more
          ∙ (rw (asked, passes_not g.remote below, le-ltb _ _ k))
