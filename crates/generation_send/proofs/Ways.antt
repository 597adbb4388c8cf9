-- Each way out of sending a frame is what the definition says. Assumes nothing.
use Prim.Native.Nat.{ℕ, ◌+◌, ◌≤◌, ◌<◌}
use mathlib.Core.Path.{◌≡◌, refl, ◌∙◌, ap}
use mathlib.Core.Bool.{Bool, true, false, ◌&&◌}
use native.Mathlib.Omega.{arith}
use borrow.Author.Tests.{lt-ltb, le-ltb, ltb-true}
use lib.Dec.{ltb}
use Rattle.refusals.specs.Rows.{refusal}
use Rattle.generation.specs.Steps.{send, sent, is_above, sending, unless, would_pass, outcome}
use Rattle.generation.specs.Answers.{step_of}
use Rattle.generation.specs.declared.GenerationRecord.{GenerationRecord}
use Rattle.generation.specs.declared.GenerationReply.TheVariants as a
use Rattle.generation.specs.declared.GenerationRefusal.TheVariants as r
use Rattle.std.specs.Prelude.{Ok, Err, cond}
use mir.Val.{bool_byte as from_bool}
use Rattle.generation.specs.declared.GenerationStep.{GenerationStep}
use Rattle.generation.proofs.Passing.{passes_not}

module _ (g : GenerationRecord) where
  -- sending one frame: one more generation where local is above last-used, with rekey
  pub one_fits : g.local ≤ 65535 → g.last ≤ 65535 → g.last + from_bool (ltb g.last g.local) ≤ 65535
  one_fits h k = go (ltb g.last g.local) refl
    where
      go : (b : Bool) → ltb g.last g.local ≡ b → g.last + from_bool b ≤ 65535
      go true e = let l : g.last < g.local = ltb-true _ _ e in omega arith
      go false e = omega arith

  pub one_is : (fin : Bool) (n : ℕ) → n ≡ g.last + from_bool (ltb g.last g.local)
      → step_of g (Ok (record { next = record { local = g.local; remote = g.remote; last = n; fin = fin }; reply = a.Sent n (ltb g.last g.local) })) ≡ sending g fin
  unfolding sending is_above
  one_is fin n e = go (ltb g.last g.local) n e
    where
      go : (b : Bool) (n : ℕ) → n ≡ g.last + from_bool b
          → step_of g (Ok (record { next = record { local = g.local; remote = g.remote; last = n; fin = fin }; reply = a.Sent n b }))
          ≡ cond b
          (record { reply = sent (g.last + 1) true; next = record { local = g.local; remote = g.remote; last = g.last + 1; fin = fin } })
          (record { reply = sent g.last false; next = record { local = g.local; remote = g.remote; last = g.last; fin = fin } })
      go true n e = ap (λ k. step_of g (Ok (record { next = record { local = g.local; remote = g.remote; last = k; fin = fin }; reply = a.Sent k true }))) e
      go false n e =
          let q : n ≡ g.last = omega arith in
          ap (λ k. step_of g (Ok (record { next = record { local = g.local; remote = g.remote; last = k; fin = fin }; reply = a.Sent k false }))) q

  -- no send passes 65,535, since local does not
  module _ (most : g.local ≤ 65535) where
    pub never_passes : is_above g && would_pass g.last ≡ false
    unfolding is_above
    never_passes = go (ltb g.last g.local) refl
      where
        go : (b : Bool) → ltb g.last g.local ≡ b → b && would_pass g.last ≡ false
        go true e = let h : g.last < g.local = ltb-true _ _ e in passes_not g.last (omega arith)
        go false e = refl

    pub send_finished : (fin : Bool) → g.fin ≡ true → step_of g (Err r.Finished) ≡ outcome g (send fin)
    unfolding outcome unless refusal
    send_finished fin e = rw (never_passes, e)

    pub send_goes : (fin : Bool) → g.fin ≡ false → (x : GenerationStep) → step_of g (Ok x) ≡ sending g fin → step_of g (Ok x) ≡ outcome g (send fin)
    unfolding outcome unless refusal
    send_goes fin e x p = p ∙ (rw (never_passes, e))
