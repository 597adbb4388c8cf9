-- Laws of a connection, over every list of steps from the first record. Assumes nothing.
use Rattle.std.specs.Prelude.{ℕ, ◌+◌, ◌≤◌, ◌<◌, ◌≡◌, refl, List, [], ◌∷◌, ◌++◌, Bool, true, false, cond, ◌&&◌, ltb}
use Rattle.std.proofs.Common.{sym, ◌∙◌, ap, true≢false, inl, inr, arith, ltb-true, ltb-false}
use Rattle.std.proofs.lemmas.Bool.{false≢true}
use Rattle.std.proofs.Math.Option.{Option, none, some}
use Rattle.refusals.specs.Rows.{refusal}
use Rattle.generation.specs.Steps.{refused, sent, received, Outcome, Ask, send, initiate, receive, first, most_generation, is_above, sending, raised, following, receiving, unless, would_pass, outcome}
use Rattle.generation.proofs.LocalStep.{follows}
use Rattle.generation.specs.declared.GenerationRecord.{GenerationRecord}
use Rattle.generation.specs.Connection.{after, fin_of, frame_of, frames, rekey_of, rekeys, Chained, FinLast, rekeys_sent, Within, Connection}

-- what a step does: it is refused, or one frame is sent of a record with the same last-used and remote, or a frame is received
data Did (g : GenerationRecord) (k : Ask) : Outcome → Type 0 where
  was_refused : (n : ℕ) → Did g k (record { reply = refused n; next = g })
  was_sent : (h : GenerationRecord) → g.fin ≡ false → h.last ≡ g.last → h.remote ≡ g.remote → g.local ≤ h.local → (g.local ≤ most_generation → h.local ≤ most_generation)
      → Did g k (sending h (fin_of k))
  was_received : (rekey : Bool) → k ≡ receive rekey → (rekey ≡ true → g.remote + 1 ≤ most_generation) → Did g k (receiving g rekey)

first_of_lem : (t : Bool × ℕ) (l : List (Bool × ℕ)) → refusal (t ∷ l) ≡ none → (t.0 ≡ false) × (refusal l ≡ none)
unfolding refusal
first_of_lem t l e = go t.0 e
  where
    go : (b : Bool) → cond b (some t.1) (refusal l) ≡ none → (b ≡ false) × (refusal l ≡ none)
    go true e = let z : ◌≡◌ {A = ℕ} 0 1 = cc in absurd (omega arith)
    go false e = (refl, e)

passes_not : (n : ℕ) → would_pass n ≡ false → n + 1 ≤ most_generation
unfolding would_pass
passes_not n e = ltb-false _ _ e

passes_if : (b : Bool) (n : ℕ) → b && would_pass n ≡ false → b ≡ true → n + 1 ≤ most_generation
passes_if true n e q = passes_not n e
passes_if false n e q = absurd (false≢true q)

unless_did : (g : GenerationRecord) (k : Ask) (t : Option ℕ) (x : Outcome) → (t ≡ none → Did g k x) → Did g k (unless t g x)
unfolding unless
unless_did g k none x h = h refl
unless_did g k (some n) x h = was_refused n

did : (g : GenerationRecord) (k : Ask) → Did g k (outcome g k)
unfolding outcome fin_of raised
did g (send fin) = unless_did g (send fin) _ _ (λ e. was_sent g (first_of_lem _ _ (first_of_lem _ _ e).1).0 refl refl (omega arith) (λ m. m))
did g (initiate has_data fin) = unless_did g (initiate has_data fin) _ _ (λ e.
    let second = first_of_lem _ _ (first_of_lem _ _ e).1 in
    was_sent (raised g) (first_of_lem _ _ second.1).0 refl refl (omega arith) (λ m. passes_not g.local second.0))
did g (receive rekey) = unless_did g (receive rekey) _ _ (λ e. was_received rekey refl (passes_if rekey g.remote (first_of_lem _ _ e).0))

-- the two ways to send, and the two ways to receive
abbrev raised_outcome : GenerationRecord → Bool → Outcome
raised_outcome g fin = record { reply = sent (g.last + 1) true; next = record { local = g.local; remote = g.remote; last = g.last + 1; fin = fin } }

abbrev same_outcome : GenerationRecord → Bool → Outcome
same_outcome g fin = record { reply = sent g.last false; next = record { local = g.local; remote = g.remote; last = g.last; fin = fin } }

abbrev followed_outcome : GenerationRecord → Outcome
followed_outcome g = record { reply = received (g.remote + 1); next = record { local = following g.local (g.remote + 1); remote = g.remote + 1; last = g.last; fin = g.fin } }

abbrev unmoved_outcome : GenerationRecord → Outcome
unmoved_outcome g = record { reply = received g.remote; next = g }

sending_law : (P : Outcome → Type 0) (g : GenerationRecord) (fin : Bool) → (g.last < g.local → P (raised_outcome g fin)) → (g.local ≤ g.last → P (same_outcome g fin)) → P (sending g fin)
unfolding sending is_above
sending_law P g fin up same = go (ltb g.last g.local) refl
  where
    go : (b : Bool) → ltb g.last g.local ≡ b → P (cond b (raised_outcome g fin) (same_outcome g fin))
    go true e = up (ltb-true _ _ e)
    go false e = same (ltb-false _ _ e)

receiving_law : (P : Outcome → Type 0) (g : GenerationRecord) (rekey : Bool) → (rekey ≡ true → P (followed_outcome g)) → (rekey ≡ false → P (unmoved_outcome g)) → P (receiving g rekey)
unfolding receiving
receiving_law P g true up same = up refl
receiving_law P g false up same = same refl

-- the generation of a sent frame is that of the frame before it or one more, with rekey exactly when it is one more
chained_step : (g : GenerationRecord) (k : Ask) (l : List Ask) → ((h : GenerationRecord) → Chained h.last (frames h l)) → (o : Outcome) → Did g k o
    → Chained g.last (frame_of k o.reply ++ frames o.next l)
unfolding frame_of
chained_step g k l rest _ (was_refused n) = rest g
chained_step g k l rest _ (was_sent h unfinished same_last same-remote above most) =
    sending_law (λ o. Chained g.last (frame_of k o.reply ++ frames o.next l)) h (fin_of k)
    (λ e. (ap (λ n. n + 1) same_last, rest (raised_outcome h (fin_of k)).next))
    (λ e. (omega arith, rest (same_outcome h (fin_of k)).next))
chained_step g k l rest _ (was_received rekey is most) =
    receiving_law (λ o. Chained g.last (frame_of k o.reply ++ frames o.next l)) g rekey (λ e. rest (followed_outcome g).next) (λ e. rest g)

pub chained : (g : GenerationRecord) (l : List Ask) → Chained g.last (frames g l)
unfolding frames
chained g [] = tt
chained g (k ∷ l) = chained_step g k l (λ h. chained h l) (outcome g k) (did g k)

-- last-used is the number of rekeys sent
sent_step : (g : GenerationRecord) (k : Ask) (l : List Ask) → ((h : GenerationRecord) → (after h l).last ≡ h.last + rekeys_sent (frames h l)) → (o : Outcome) → Did g k o
    → (after o.next l).last ≡ g.last + rekeys_sent (frame_of k o.reply ++ frames o.next l)
unfolding frame_of rekeys_sent
sent_step g k l rest _ (was_refused n) = rest g
sent_step g k l rest _ (was_sent h unfinished same_last same-remote above most) =
    sending_law (λ o. (after o.next l).last ≡ g.last + rekeys_sent (frame_of k o.reply ++ frames o.next l)) h (fin_of k)
    (λ e. rest (raised_outcome h (fin_of k)).next ∙ omega arith)
    (λ e. rest (same_outcome h (fin_of k)).next ∙ omega arith)
sent_step g k l rest _ (was_received rekey is most) =
    receiving_law (λ o. (after o.next l).last ≡ g.last + rekeys_sent (frame_of k o.reply ++ frames o.next l)) g rekey (λ e. rest (followed_outcome g).next) (λ e. rest g)

pub sent_counted : (g : GenerationRecord) (l : List Ask) → (after g l).last ≡ g.last + rekeys_sent (frames g l)
unfolding frames after rekeys_sent
sent_counted g [] = omega arith
sent_counted g (k ∷ l) = sent_step g k l (λ h. sent_counted h l) (outcome g k) (did g k)

-- remote is the number of rekeys received
sent_no_rekey : (k : Ask) (n : ℕ) (b : Bool) → rekey_of k (sent n b) ≡ 0
unfolding rekey_of
sent_no_rekey (send fin) n b = refl
sent_no_rekey (initiate has_data fin) n b = refl
sent_no_rekey (receive rekey) n b = refl

refused_no_rekey : (k : Ask) (n : ℕ) → rekey_of k (refused n) ≡ 0
unfolding rekey_of
refused_no_rekey (send fin) n = refl
refused_no_rekey (initiate has_data fin) n = refl
refused_no_rekey (receive rekey) n = refl

remote_step : (g : GenerationRecord) (k : Ask) (o : Outcome) → Did g k o → o.next.remote ≡ g.remote + rekey_of k o.reply
unfolding rekey_of
remote_step g k _ (was_refused n) = omega (arith, refused_no_rekey k n)
remote_step g k _ (was_sent h unfinished same_last same-remote above most) =
    sending_law (λ o. o.next.remote ≡ g.remote + rekey_of k o.reply) h (fin_of k)
    (λ e. omega (arith, sent_no_rekey k (h.last + 1) true))
    (λ e. omega (arith, sent_no_rekey k h.last false))
remote_step g k _ (was_received rekey is most) =
    receiving_law (λ o. o.next.remote ≡ g.remote + rekey_of k o.reply) g rekey
    (λ e. rw (is, e))
    (λ e. rw (is, e) (omega arith))

pub remote_counted : (g : GenerationRecord) (l : List Ask) → (after g l).remote ≡ g.remote + rekeys g l
unfolding after rekeys
remote_counted g [] = omega arith
remote_counted g (k ∷ l) =
    let one = remote_step g k (outcome g k) (did g k) in
    let rest = remote_counted (outcome g k).next l in
    omega arith

-- local is never below either
within_step : (g : GenerationRecord) (k : Ask) (o : Outcome) → Did g k o → Within g → Within o.next
within_step g k _ (was_refused n) w = w
within_step g k _ (was_sent h unfinished same_last same-remote above most) w =
    sending_law (λ o. Within o.next) h (fin_of k)
    (λ e. record { remote_within = omega arith; last_within = omega arith; most = most w.most })
    (λ e. record { remote_within = omega arith; last_within = omega arith; most = most w.most })
within_step g k _ (was_received rekey is most) w =
    receiving_law (λ o. Within o.next) g rekey
    (λ e. elim (follows g.local (g.remote + 1)) [
      | inl h ↦ record { remote_within = omega (arith, h.0, h.1); last_within = omega (arith, w.last_within, h.1); most = omega (arith, w.most, h.1) }
      | inr h ↦ record { remote_within = omega (arith, h.1); last_within = omega (arith, w.last_within, h.0, h.1); most = omega (arith, most e, h.1) }
    ])
    (λ e. w)

pub within : (g : GenerationRecord) (l : List Ask) → Within g → Within (after g l)
unfolding after
within g [] w = w
within g (k ∷ l) w = within (outcome g k).next l (within_step g k (outcome g k) (did g k) w)

-- after FINp nothing is sent
silent_step : (g : GenerationRecord) (k : Ask) (l : List Ask) → ((h : GenerationRecord) → h.fin ≡ true → frames h l ≡ []) → g.fin ≡ true → (o : Outcome) → Did g k o
    → frame_of k o.reply ++ frames o.next l ≡ []
unfolding frame_of
silent_step g k l rest e _ (was_refused n) = rest g e
silent_step g k l rest e _ (was_sent h unfinished same_last same-remote above most) = absurd (true≢false (sym e ∙ unfinished))
silent_step g k l rest e _ (was_received rekey is most) =
    receiving_law (λ o. frame_of k o.reply ++ frames o.next l ≡ []) g rekey (λ q. rest (followed_outcome g).next e) (λ q. rest g e)

pub silent : (g : GenerationRecord) (l : List Ask) → g.fin ≡ true → frames g l ≡ []
unfolding frames
silent g [] e = refl
silent g (k ∷ l) e = silent_step g k l (λ h. silent h l) e (outcome g k) (did g k)

fin_step : (g : GenerationRecord) (k : Ask) (l : List Ask) → ((h : GenerationRecord) → FinLast (frames h l)) → (o : Outcome) → Did g k o → FinLast (frame_of k o.reply ++ frames o.next l)
unfolding frame_of
fin_step g k l rest _ (was_refused n) = rest g
fin_step g k l rest _ (was_sent h unfinished same_last same-remote above most) =
    sending_law (λ o. FinLast (frame_of k o.reply ++ frames o.next l)) h (fin_of k)
    (λ e. (λ q. silent (raised_outcome h (fin_of k)).next l q, rest (raised_outcome h (fin_of k)).next))
    (λ e. (λ q. silent (same_outcome h (fin_of k)).next l q, rest (same_outcome h (fin_of k)).next))
fin_step g k l rest _ (was_received rekey is most) =
    receiving_law (λ o. FinLast (frame_of k o.reply ++ frames o.next l)) g rekey (λ e. rest (followed_outcome g).next) (λ e. rest g)

pub fin_last : (g : GenerationRecord) (l : List Ask) → FinLast (frames g l)
unfolding frames
fin_last g [] = tt
fin_last g (k ∷ l) = fin_step g k l (λ h. fin_last h l) (outcome g k) (did g k)

first_within : Within first
unfolding first most_generation
first_within = record { remote_within = omega arith; last_within = omega arith; most = omega arith }

pub connection : (l : List Ask) → Connection l
unfolding first
connection l = record {
  generations = chained first l;
  remote_is = remote_counted first l ∙ omega arith;
  last_is = sent_counted first l ∙ omega arith;
  bounds = within first l first_within;
  fin_is_last = fin_last first l;
}
