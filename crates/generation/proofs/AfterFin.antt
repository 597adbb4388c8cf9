-- Change request (iii): after FINp nothing is owed. Document 01's rule as it was first written, and what moved. Assumes nothing.
use Rattle.std.specs.Prelude.{ℕ, ◌+◌, ◌≡◌, refl, List, [], ◌∷◌, Bool, true, false, cond, not, ◌&&◌, ◌⊎◌}
use Rattle.std.proofs.Common.{◌∙◌, inl, inr}
use Rattle.std.proofs.Math.Path.{ap, ap₂}
use Rattle.std.proofs.Math.Option.{none, some}
use Rattle.std.proofs.Math.Dec.{ltb}
use Rattle.refusals.specs.Rows.{refusal}
use Rattle.generation.specs.Steps.{refused, Outcome, Ask, send, initiate, receive, is_above, owed, sending, raised, following, receiving, unless, would_pass, outcome}
use Rattle.generation.specs.Connection.{after}
use Rattle.generation.specs.declared.GenerationRecord.{GenerationRecord}
use Rattle.generation.specs.AfterFin.{outcome_as_written, Moved}

abbrev refused_with : ℕ → GenerationRecord → Outcome
refused_with n g = record { reply = refused n; next = g }

-- after FINp nothing is owed
pub owes_nothing : (g : GenerationRecord) → g.fin ≡ true → owed g ≡ false
unfolding owed
owes_nothing g e = go (is_above g)
  where
    go : (b : Bool) → b && not g.fin ≡ false
    go true = ap not e
    go false = refl

owed_before : (g : GenerationRecord) → g.fin ≡ false → owed g ≡ is_above g
unfolding owed
owed_before g e = go (is_above g)
  where
    go : (b : Bool) → b && not g.fin ≡ b
    go true = ap not e
    go false = refl

owed_below : (g : GenerationRecord) → is_above g ≡ false → owed g ≡ is_above g
unfolding owed
owed_below g e = rw e

either_refused : (g : GenerationRecord) (x : Outcome) (b : Bool) → unless (cond b (some 13) (some 14)) g x ≡ refused_with (cond b 13 14) g
unfolding unless
either_refused g x true = refl
either_refused g x false = refl

module _ (g : GenerationRecord) (has_data fin : Bool) where
  abbrev outcome_at : Bool → Outcome
  outcome_at b = unless (refusal ((b, 4) ∷ (would_pass g.local, 13) ∷ (g.fin, 14) ∷ (not has_data && ltb g.remote g.local, 15) ∷ [])) g (sending (raised g) fin)

  same_initiate : owed g ≡ is_above g → outcome g (initiate has_data fin) ≡ outcome_as_written g (initiate has_data fin)
  unfolding outcome outcome_as_written
  same_initiate e = ap outcome_at e

  was_4 : is_above g ≡ true → (outcome_as_written g (initiate has_data fin)).reply ≡ refused 4
  unfolding outcome_as_written unless refusal
  was_4 a = rw a

  finished_initiate : g.fin ≡ true → outcome g (initiate has_data fin) ≡ refused_with (cond (would_pass g.local) 13 14) g
  unfolding outcome refusal
  finished_initiate f =
      ap₂ (λ o b. unless (cond o (some 4) (cond (would_pass g.local) (some 13) (cond b (some 14) (cond (not has_data && ltb g.remote g.local) (some 15) none)))) g (sending (raised g) fin)) (owes_nothing g f) f
      ∙ either_refused g _ (would_pass g.local)

-- before FINp nothing changes
pub before_fin : (g : GenerationRecord) → g.fin ≡ false → (owed g ≡ is_above g) × ((k : Ask) → outcome g k ≡ outcome_as_written g k)
unfolding outcome outcome_as_written
before_fin g e = (owed_before g e, same)
  where
    same : (k : Ask) → outcome g k ≡ outcome_as_written g k
    same (send fin) = refl
    same (initiate has_data fin) = same_initiate g has_data fin (owed_before g e)
    same (receive rekey) = refl

-- and of the refusals only this moves
pub only_this_moves : (g : GenerationRecord) (k : Ask) → (outcome g k ≡ outcome_as_written g k) ⊎ Moved g k
unfolding outcome outcome_as_written
only_this_moves g (send fin) = inl refl
only_this_moves g (initiate has_data fin) = go g.fin (is_above g) refl refl
  where
    go : (f a : Bool) → g.fin ≡ f → is_above g ≡ a → (outcome g (initiate has_data fin) ≡ outcome_as_written g (initiate has_data fin)) ⊎ Moved g (initiate has_data fin)
    go false a ef ea = inl (same_initiate g has_data fin (owed_before g ef))
    go true false ef ea = inl (same_initiate g has_data fin (owed_below g ea))
    go true true ef ea = inr (record { after_fin = ef; gave_4 = was_4 g has_data fin ea; gives = finished_initiate g has_data fin ef })
only_this_moves g (receive rekey) = inl refl

-- after FINp last-used is left
abbrev Left : GenerationRecord → GenerationRecord → Type 0
Left g h = (h.last ≡ g.last) × (h.fin ≡ true)

finished_send : (g : GenerationRecord) (fin : Bool) → g.fin ≡ true → outcome g (send fin) ≡ refused_with (cond (is_above g && would_pass g.last) 13 14) g
unfolding outcome refusal
finished_send g fin f =
    ap (λ b. unless (cond (is_above g && would_pass g.last) (some 13) (cond b (some 14) none)) g (sending g fin)) f
    ∙ either_refused g _ (is_above g && would_pass g.last)

left_step : (g : GenerationRecord) (k : Ask) → g.fin ≡ true → Left g (outcome g k).next
unfolding outcome refusal unless receiving
left_step g (send fin) f = rw (finished_send g fin f) (refl, f)
left_step g (initiate has_data fin) f = rw (finished_initiate g has_data fin f) (refl, f)
left_step g (receive true) f = go (would_pass g.remote)
  where
    go : (b : Bool) → Left g (unless (cond b (some 13) none) g (receiving g true)).next
    go true = (refl, f)
    go false = (refl, f)
left_step g (receive false) f = (refl, f)

pub last_left : (g : GenerationRecord) (l : List Ask) → g.fin ≡ true → ((after g l).last ≡ g.last) × ((after g l).fin ≡ true)
unfolding after
last_left g [] f = (refl, f)
last_left g (k ∷ l) f =
    let one = left_step g k f in
    let rest = last_left (outcome g k).next l one.1 in
    (rest.0 ∙ one.0, rest.1)

-- and local still follows remote
pub still_follows : (g : GenerationRecord) → g.fin ≡ true → would_pass g.remote ≡ false
    → (outcome g (receive true)).next ≡ record { local = following g.local (g.remote + 1); remote = g.remote + 1; last = g.last; fin = true }
unfolding outcome refusal unless receiving
still_follows g f w = rw (w, f)
