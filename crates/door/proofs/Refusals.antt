-- Demand 1 for one door: a refusal changes nothing, and a reply is `refused n` exactly when n is the least number of the table that applies.
use Rattle.std.specs.Prelude.{ℕ, List, [], Bool, true, false, cond, ◌↔◌, eqb, length}
use Rattle.std.proofs.Math.Path.{◌≡◌, refl}
use Rattle.std.proofs.Common.{sym, ◌∙◌, ap, arith}
use Rattle.std.proofs.Math.Option.{Option, none, some}
use Rattle.refusals.specs.Rows.{Rising, Least}
use Rattle.refusals.specs.RowLaws.{first_is_least}
use Rattle.eno.specs.Tep.{is_known}
use Rattle.eno.specs.declared.Cause.{Cause}
use Rattle.door.specs.Door.{Phase, idle, offering, crossed, answering, opened, unencrypted, phase_of, transcript_of, Seen}
use Rattle.door.specs.Outcome.{Reply, refused, written, plain, now_in, encrypted, done, holds, Outcome, refusal, unless}
use Rattle.door.specs.Offer as o
use Rattle.door.specs.Answer as a
use Rattle.door.specs.Answer.{answer_with, plain_for, with}
use Rattle.door.specs.Receive as r
use Rattle.door.specs.Receive.{turn, is_open, now_says}
use Rattle.door.specs.Records as k
use Rattle.door.specs.Numbered.{area_of, number2, number3, out_of_turn_in, number4, lent_of, to_write, number5, number6, number7, number16, rows, applies}
use Rattle.door.specs.Calls.{Ask, offer, answer, receive, resend, result, close, store, forget, count, outcome}
use Rattle.door.specs.declared.Door.{Door}
use Rattle.door.proofs.SameTests.{answer_terms_lem, offer_terms, record_terms, forget_step, idle_turn, send_turn, result_turn, result_room, receive_turn}
use Rattle.door.specs.Refusals.{refused_by, AsFound}

-- a call that is one of `unless`
module _ (d : Door) (s : List ℕ) (x : Outcome) (taken : refused_by x.reply ≡ none) where
  told : (t : Option ℕ) → refused_by (unless t d s x).reply ≡ t
  unfolding unless
  told none = taken
  told (some n) = refl

  kept : (t : Option ℕ) (n : ℕ) → refused_by (unless t d s x).reply ≡ some n → AsFound d s (unless t d s x)
  unfolding unless
  kept none n e = let z : ◌≡◌ {A = ℕ} 0 1 = cc in absurd (omega arith)
  kept (some m) n e = record { buffer = refl; door = refl; effect = refl }

now_taken : (p : Phase) (n : Cause) → refused_by (now_says p n) ≡ none
now_taken idle n = refl
now_taken offering n = refl
now_taken crossed n = refl
now_taken answering n = refl
now_taken opened n = refl
now_taken unencrypted n = refl

replies_taken : (d : Door) → refused_by (r.replies d) ≡ none
replies_taken d = now_taken (phase_of d.phase) d.cause

answer_taken : (v : Seen) (aware mandatory : Bool) (p nonce s : List ℕ) (w : a.Answering) → refused_by (answer_with v aware mandatory p nonce s w).reply ≡ none
unfolding answer_with
answer_taken v aware mandatory p nonce s (plain_for n) = refl
answer_taken v aware mandatory p nonce s (with c) = refl

either_taken : (b : Bool) (x y : Reply) → refused_by x ≡ none → refused_by y ≡ none → refused_by (cond b x y) ≡ none
either_taken true x y p q = p
either_taken false x y p q = q

-- a refusal leaves view and buffer as found, and keeps the pool
pub refusal_changes_nothing : (free : Bool) (v : Seen) (q : Ask) (n : ℕ) → (outcome free v q).reply ≡ refused n → AsFound v.door (lent_of q) (outcome free v q)
unfolding outcome lent_of o.offer a.answer r.receive r.resend r.result r.close k.store k.forget k.count
refusal_changes_nothing free v (offer b aware mandatory list resume nonce s) n e = kept v.door s _ refl _ n (ap refused_by e)
refusal_changes_nothing free v (answer area aware mandatory list nonce s) n e = kept v.door s _ (answer_taken v aware mandatory _ nonce s _) _ n (ap refused_by e)
refusal_changes_nothing free v (receive syn ack area) n e = kept v.door [] _ (replies_taken (r.received v.door (turn (phase_of v.door.phase) syn ack) area)) _ n (ap refused_by e)
refusal_changes_nothing free v (resend s) n e = kept v.door s _ refl _ n (ap refused_by e)
refusal_changes_nothing free v (result s) n e = kept v.door s _ (either_taken (is_open (phase_of v.door.phase)) _ _ refl refl) _ n (ap refused_by e)
refusal_changes_nothing free v close n e = let z : ◌≡◌ {A = Option ℕ} none (some n) = ap refused_by e in let y : ◌≡◌ {A = ℕ} 0 1 = cc in absurd (omega arith)
refusal_changes_nothing free v (store t role identifier secret) n e = kept v.door [] _ refl _ n (ap refused_by e)
refusal_changes_nothing free v (forget t identifier) n e = kept v.door [] _ refl _ n (ap refused_by e)
refusal_changes_nothing free v count n e = let z : ◌≡◌ {A = Option ℕ} none (some n) = ap refused_by e in let y : ◌≡◌ {A = ℕ} 0 1 = cc in absurd (omega arith)

-- the reply is refused by the first row that applies
pub refused_by_rows : (free : Bool) (v : Seen) (q : Ask) → refused_by (outcome free v q).reply ≡ refusal (rows free v q)
unfolding outcome o.offer a.answer r.receive r.resend r.result r.close k.store k.forget k.count rows number2 area_of number3 number4 out_of_turn_in number5 lent_of to_write number6 number7 number16 refusal
refused_by_rows free v (offer b aware mandatory list resume nonce s) =
    told v.door s _ refl _ ∙ rw (offer_terms b aware mandatory list nonce, idle_turn (phase_of v.door.phase))
refused_by_rows free v (answer area aware mandatory list nonce s) =
    told v.door s _ (answer_taken v aware mandatory _ nonce s _) _ ∙ rw (answer_terms_lem aware mandatory list nonce, idle_turn (phase_of v.door.phase))
refused_by_rows free v (receive syn ack area) =
    told v.door [] _ (replies_taken (r.received v.door (turn (phase_of v.door.phase) syn ack) area)) _ ∙ rw (receive_turn (phase_of v.door.phase) syn ack)
refused_by_rows free v (resend s) = told v.door s _ refl _ ∙ rw (send_turn (phase_of v.door.phase))
refused_by_rows free v (result s) =
    told v.door s _ (either_taken (is_open (phase_of v.door.phase)) _ _ refl refl) _
    ∙ rw (result_turn (phase_of v.door.phase), result_room (phase_of v.door.phase) (length s) (length (transcript_of v.door)))
refused_by_rows free v close = refl
refused_by_rows free v (store t role identifier secret) = told v.door [] _ refl _ ∙ rw (record_terms t role identifier secret)
refused_by_rows free v (forget t identifier) = told v.door [] _ refl _ ∙ rw (forget_step (is_known t) (eqb (length identifier) 18))
refused_by_rows free v count = refl

rows_rise : (free : Bool) (v : Seen) (q : Ask) → Rising 0 (rows free v q)
unfolding rows
rows_rise free v q = (omega arith, (omega arith, (omega arith, (omega arith, (omega arith, (omega arith, (omega arith, tt)))))))

refused_back : (x : Reply) (n : ℕ) → refused_by x ≡ some n → x ≡ refused n
refused_back (refused m) n e = let q : m ≡ n = cc in ap refused q
refused_back (written m) n e = let z : ◌≡◌ {A = ℕ} 0 1 = cc in absurd (omega arith)
refused_back (plain m) n e = let z : ◌≡◌ {A = ℕ} 0 1 = cc in absurd (omega arith)
refused_back (now_in p) n e = let z : ◌≡◌ {A = ℕ} 0 1 = cc in absurd (omega arith)
refused_back (encrypted role byte way m secret) n e = let z : ◌≡◌ {A = ℕ} 0 1 = cc in absurd (omega arith)
refused_back done n e = let z : ◌≡◌ {A = ℕ} 0 1 = cc in absurd (omega arith)
refused_back (holds m) n e = let z : ◌≡◌ {A = ℕ} 0 1 = cc in absurd (omega arith)

-- the reply is `refused n` exactly when n is the least number that applies; so no other number occurs
pub refused_exactly : (free : Bool) (v : Seen) (q : Ask) (n : ℕ) → ((outcome free v q).reply ≡ refused n) ↔ Least (applies free v q) n
unfolding applies
refused_exactly free v q n =
    let first = first_is_least (rows free v q) 0 (rows_rise free v q) n in (
      λ e. first.0 (sym (refused_by_rows free v q) ∙ ap refused_by e),
      λ l. refused_back (outcome free v q).reply n (refused_by_rows free v q ∙ first.1 l),
    )
