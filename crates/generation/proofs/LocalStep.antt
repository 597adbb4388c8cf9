-- Local from above: what one step makes of it, for every record. Assumes nothing.
use Rattle.std.specs.Prelude.{ℕ, ◌+◌, ◌≤◌, ◌<◌, ◌≡◌, refl, Bool, true, false, cond, ◌⊎◌, ltb}
use Rattle.std.proofs.lemmas.Bool.{false≢true}
use Rattle.std.proofs.Math.Option.{Option, none, some}
use Rattle.std.proofs.Common.{inl, inr, ltb-true, ltb-false}
use Rattle.generation.specs.Steps.{refused, sent, Outcome, Ask, send, initiate, receive, is_above, sending, raised, following, receiving, unless, outcome}
use Rattle.generation.specs.declared.GenerationRecord.{GenerationRecord}
use Rattle.generation.specs.LocalStep.{is_initiated, is_rekey, LocalAfter, as_before, one_more, remote_now}

-- local follows to remote and no further, and only if remote exceeds it
pub follows : (local remote : ℕ) → ((remote ≤ local) × (following local remote ≡ local)) ⊎ ((local < remote) × (following local remote ≡ remote))
unfolding following
follows local remote = go (ltb local remote) refl
  where
    go : (b : Bool) → ltb local remote ≡ b → ((remote ≤ local) × (cond b remote local ≡ local)) ⊎ ((local < remote) × (cond b remote local ≡ remote))
    go true e = inr (ltb-true _ _ e, refl)
    go false e = inl (ltb-false _ _ e, refl)

refused_as_before : (g : GenerationRecord) (k : Ask) (n : ℕ) → LocalAfter g k (record { reply = refused n; next = g })
unfolding is_initiated is_rekey
refused_as_before g (send fin) n = as_before refl (λ e. absurd (false≢true e)) refl
refused_as_before g (initiate has_data fin) n = as_before refl (λ e. absurd (false≢true e)) refl
refused_as_before g (receive rekey) n = as_before refl (λ e. absurd (false≢true e)) refl

unless_after : (g : GenerationRecord) (k : Ask) (t : Option ℕ) (o : Outcome) → LocalAfter g k o → LocalAfter g k (unless t g o)
unfolding unless
unless_after g k none o h = h
unless_after g k (some n) o h = refused_as_before g k n

-- the steps that are not refused
sent_after : (g : GenerationRecord) (fin : Bool) → LocalAfter g (send fin) (sending g fin)
unfolding sending is_initiated is_rekey
sent_after g fin = go (is_above g)
  where
    go : (b : Bool) → LocalAfter g (send fin)
        (cond b
        (record { reply = sent (g.last + 1) true; next = record { local = g.local; remote = g.remote; last = g.last + 1; fin = fin } })
        (record { reply = sent g.last false; next = record { local = g.local; remote = g.remote; last = g.last; fin = fin } }))
    go true = as_before refl (λ e. absurd (false≢true e)) refl
    go false = as_before refl (λ e. absurd (false≢true e)) refl

initiated_after : (g : GenerationRecord) (has_data fin : Bool) → LocalAfter g (initiate has_data fin) (sending (raised g) fin)
unfolding sending raised is_initiated
initiated_after g has_data fin = go (is_above (raised g))
  where
    go : (b : Bool) → LocalAfter g (initiate has_data fin)
        (cond b
        (record { reply = sent (g.last + 1) true; next = record { local = g.local + 1; remote = g.remote; last = g.last + 1; fin = fin } })
        (record { reply = sent g.last false; next = record { local = g.local + 1; remote = g.remote; last = g.last; fin = fin } }))
    go true = one_more refl refl
    go false = one_more refl refl

received_after : (g : GenerationRecord) (rekey : Bool) → LocalAfter g (receive rekey) (receiving g rekey)
unfolding receiving is_initiated is_rekey
received_after g true = elim (follows g.local (g.remote + 1)) [
  | inl h ↦ as_before refl (λ e. h.0) h.1
  | inr h ↦ remote_now refl refl h.0 h.1
]
received_after g false = as_before refl (λ e. absurd (false≢true e)) refl

pub local_after : (g : GenerationRecord) (k : Ask) → LocalAfter g k (outcome g k)
unfolding outcome
local_after g (send fin) = unless_after g (send fin) _ _ (sent_after g fin)
local_after g (initiate has_data fin) = unless_after g (initiate has_data fin) _ _ (initiated_after g has_data fin)
local_after g (receive rekey) = unless_after g (receive rekey) _ _ (received_after g rekey)
