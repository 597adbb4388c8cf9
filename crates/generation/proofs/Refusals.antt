-- Demand 1 for generations: a refusal leaves the record as found, and a reply is `refused n` exactly when n is the least number that applies. Assumes nothing.
use Rattle.std.specs.Prelude.{ℕ, ◌+◌, ◌≤◌, ◌<◌, Bool, true, false, cond, ◌&&◌, ◌↔◌, ltb}
use Rattle.std.proofs.Math.Path.{◌≡◌, refl}
use Rattle.std.proofs.Common.{sym, ◌∙◌, ap, arith, le-ltb, ltb-true}
use Rattle.std.proofs.Math.Option.{Option, none, some}
use Rattle.refusals.specs.Rows.{refusal, Rising, Least}
use Rattle.refusals.specs.RowLaws.{first_is_least}
use Rattle.generation.specs.Steps.{Reply, refused, sent, received, Outcome, Ask, send, initiate, receive, most_generation, is_above, owed, sending, receiving, unless, would_pass, outcome}
use Rattle.generation.specs.Numbered.{number4, number13, number14, number15, rows, applies}
use Rattle.generation.specs.declared.GenerationRecord.{GenerationRecord}
use Rattle.generation.specs.Refusals.{refused_by}

either_taken : (b : Bool) (x y : Outcome) → refused_by x.reply ≡ none → refused_by y.reply ≡ none → refused_by (cond b x y).reply ≡ none
either_taken true x y p q = p
either_taken false x y p q = q

sending_taken : (g : GenerationRecord) (fin : Bool) → refused_by (sending g fin).reply ≡ none
unfolding sending
sending_taken g fin = either_taken (is_above g) _ _ refl refl

receiving_taken : (g : GenerationRecord) (rekey : Bool) → refused_by (receiving g rekey).reply ≡ none
unfolding receiving
receiving_taken g rekey = either_taken rekey _ _ refl refl

module _ (g : GenerationRecord) (x : Outcome) (taken : refused_by x.reply ≡ none) where
  told : (t : Option ℕ) → refused_by (unless t g x).reply ≡ t
  unfolding unless
  told none = taken
  told (some n) = refl

  kept : (t : Option ℕ) (n : ℕ) → refused_by (unless t g x).reply ≡ some n → (unless t g x).next ≡ g
  unfolding unless
  kept none n e = let z : ◌≡◌ {A = ℕ} 0 1 = cc in absurd (omega arith)
  kept (some m) n e = refl

-- a refusal leaves the record as found
pub refusal_changes_nothing : (g : GenerationRecord) (k : Ask) (n : ℕ) → (outcome g k).reply ≡ refused n → (outcome g k).next ≡ g
unfolding outcome
refusal_changes_nothing g (send fin) n e = kept g _ (sending_taken g fin) _ n (ap refused_by e)
refusal_changes_nothing g (initiate has_data fin) n e = kept g _ (sending_taken _ fin) _ n (ap refused_by e)
refusal_changes_nothing g (receive rekey) n e = kept g _ (receiving_taken g rekey) _ n (ap refused_by e)

-- the reply is refused by the first row that applies
refused_by_rows : (g : GenerationRecord) (k : Ask) → refused_by (outcome g k).reply ≡ refusal (rows g k)
unfolding outcome rows number4 number13 number14 number15 refusal owed is_above would_pass most_generation
refused_by_rows g (send fin) = told g _ (sending_taken g fin) _
refused_by_rows g (initiate has_data fin) = told g _ (sending_taken _ fin) _
refused_by_rows g (receive rekey) = told g _ (receiving_taken g rekey) _

rows_rise : (g : GenerationRecord) (k : Ask) → Rising 0 (rows g k)
unfolding rows
rows_rise g k = (omega arith, (omega arith, (omega arith, (omega arith, tt))))

refused_back : (x : Reply) (n : ℕ) → refused_by x ≡ some n → x ≡ refused n
refused_back (refused m) n e = let q : m ≡ n = cc in ap refused q
refused_back (sent generation rekey) n e = let z : ◌≡◌ {A = ℕ} 0 1 = cc in absurd (omega arith)
refused_back (received generation) n e = let z : ◌≡◌ {A = ℕ} 0 1 = cc in absurd (omega arith)

-- the reply is `refused n` exactly when n is the least number that applies; so no other number occurs
pub refused_exactly : (g : GenerationRecord) (k : Ask) (n : ℕ) → ((outcome g k).reply ≡ refused n) ↔ Least (applies g k) n
unfolding applies
refused_exactly g k n =
    let both = first_is_least (rows g k) 0 (rows_rise g k) n in (
      λ e. both.0 (sym (refused_by_rows g k) ∙ ap refused_by e),
      λ l. refused_back (outcome g k).reply n (refused_by_rows g k ∙ both.1 l),
    )

-- 13 never applies to a send of a record that code can hold
pub send_never_13 : (g : GenerationRecord) → g.local ≤ 65535 → (fin : Bool) → number13 g (send fin) ≡ false
unfolding number13
send_never_13 g most fin = go (ltb g.last g.local) refl
  where
    go : (b : Bool) → ltb g.last g.local ≡ b → b && ltb 65535 (g.last + 1) ≡ false
    go true e = let h : g.last < g.local = ltb-true _ _ e in le-ltb 65535 (g.last + 1) (omega arith)
    go false e = refl
