-- What the calls of a door keep to: an effect fits what the door sees, and number 6 is the door's own affair.
use Rattle.std.specs.Prelude.{◌≡◌, refl, ◌≢◌, Bool, true, false, cond, not, ◌&&◌, ◌||◌, List, [], ◌∷◌, ℕ, ◌+◌, ◌≤◌, ◌<◌, ltb, leb, length}
use Rattle.std.proofs.Common.{sym, ap, ◌∙◌, arith, ltb-true, leb-false}
use Rattle.std.proofs.lemmas.Bool.{false≢true, lt-leb, not-false}
use Rattle.std.proofs.Math.Option.{none, some}
use Rattle.eno.specs.Session.{in_hand}
use Rattle.door.specs.Numbers.{each_n}
use Rattle.door.specs.Door.{Seen}
use Rattle.door.specs.Outcome.{refused, done, Outcome, keep, add, remove, refusal, unless}
use Rattle.door.specs.Offer as o
use Rattle.door.specs.Answer as a
use Rattle.door.specs.Answer.{answer_with, plain_for, with}
use Rattle.door.specs.Receive as r
use Rattle.door.specs.Records as k
use Rattle.door.specs.Records.{is_held, is_record}
use Rattle.door.specs.Calls.{Ask, offer, answer, receive, resend, result, close, store, forget, count, outcome}
use Rattle.door.specs.declared.Door.{Door}
use Rattle.unit.specs.Laws.Calls.{Fits, Pass}

-- what holds of every refusal, and of x where no test holds, holds of `unless`
pub unless_law : (P : Outcome → Type 0) (l : List (Bool × ℕ)) (d : Door) (s : List ℕ) (x : Outcome) → ((n : ℕ) → P (unless (some n) d s x)) → (Pass l → P x) → P (unless (refusal l) d s x)
unfolding refusal unless
unless_law P [] d s x f g = g tt
unless_law P (t ∷ l) d s x f g = go t.0 refl (λ e. unless_law P l d s x f (λ p. g (e, p)))
  where
    go : (b : Bool) → t.0 ≡ b → (t.0 ≡ false → P (unless (refusal l) d s x)) → P (unless (cond b (some t.1) (refusal l)) d s x)
    go true e rest = f t.1
    go false e rest = rest e

take_or_keep : (free : Bool) (v : Seen) (j : ℕ) → Fits free v (cond (ltb j (length v.held)) (remove j) keep)
take_or_keep free v j = go (ltb j (length v.held)) refl
  where
    go : (b : Bool) → ltb j (length v.held) ≡ b → Fits free v (cond b (remove j) keep)
    go true e = ltb-true _ _ e
    go false e = tt

answer_fits_lem : (free : Bool) (v : Seen) (aware mandatory : Bool) (p nonce s : List ℕ) (w : a.Answering) → Fits free v (answer_with v aware mandatory p nonce s w).effect
unfolding answer_with
answer_fits_lem free v aware mandatory p nonce s (plain_for n) = tt
answer_fits_lem free v aware mandatory p nonce s (with c) = take_or_keep free v c.at

pub or_false : (x y : Bool) → x || y ≡ false → (x ≡ false) × (y ≡ false)
or_false true y e = absurd (false≢true (sym e))
or_false false y e = (refl, e)

pub outcome_fits : (free : Bool) (v : Seen) (q : Ask) → Fits free v (outcome free v q).effect
unfolding outcome o.offer a.answer r.receive r.resend r.result r.close k.store k.forget k.count unless is_held
outcome_fits free v (offer b aware mandatory list resume nonce s) =
    unless_law (λ x. Fits free v x.effect) _ v.door s _ (λ n. tt) (λ p. take_or_keep free v (o.offered_at resume list v.held))
outcome_fits free v (answer area aware mandatory list nonce s) =
    unless_law (λ x. Fits free v x.effect) _ v.door s _ (λ n. tt) (λ p. answer_fits_lem free v aware mandatory _ nonce s _)
outcome_fits free v (receive syn ack area) = unless_law (λ x. Fits free v x.effect) _ v.door [] _ (λ n. tt) (λ p. tt)
outcome_fits free v (resend s) = unless_law (λ x. Fits free v x.effect) _ v.door s _ (λ n. tt) (λ p. tt)
outcome_fits free v (result s) = unless_law (λ x. Fits free v x.effect) _ v.door s _ (λ n. tt) (λ p. tt)
outcome_fits free v close = tt
outcome_fits free v (store t role identifier secret) =
    unless_law (λ x. Fits free v x.effect) _ v.door [] _ (λ n. tt)
    (λ p. let q = or_false (leb each_n (length v.held)) (not free) p.1.0 in (leb-false each_n (length v.held) q.0, not-false free q.1))
outcome_fits free v (forget t identifier) =
    unless_law (λ x. Fits free v x.effect) _ v.door [] _ (λ n. tt) (λ p. ltb-true _ _ (not-false _ p.1.0))
outcome_fits free v count = tt

-- where a row is free whenever the door holds fewer than its number, it is as if a row were always free
full_own : (free : Bool) (n : ℕ) → (n < each_n → free ≡ true) → leb each_n n || not free ≡ leb each_n n || not true
full_own free n h = go (leb each_n n) refl
  where
    go : (b : Bool) → leb each_n n ≡ b → b || not free ≡ b || not true
    go true e = refl
    go false e = ap not (h (leb-false each_n n e))

pub outcome_own : (free : Bool) (v : Seen) (q : Ask) → (length v.held < each_n → free ≡ true) → outcome free v q ≡ outcome true v q
unfolding outcome k.store
outcome_own free v (offer b aware mandatory list resume nonce s) h = refl
outcome_own free v (answer area aware mandatory list nonce s) h = refl
outcome_own free v (receive syn ack area) h = refl
outcome_own free v (resend s) h = refl
outcome_own free v (result s) h = refl
outcome_own free v close h = refl
outcome_own free v (store t role identifier secret) h = rw (full_own free (length v.held) h)
outcome_own free v (forget t identifier) h = refl
outcome_own free v count h = refl

-- and number 6 is not given while the door holds fewer
pub never_six : (v : Seen) (t role : ℕ) (identifier secret : List ℕ) → length v.held < each_n → (outcome true v (store t role identifier secret)).reply ≢ refused 6
unfolding outcome k.store refusal unless
never_six v t role identifier secret h = rw (lt-leb each_n (length v.held) h) (go (not (is_record t role identifier secret)) (is_held t identifier v.held || k.is_in_hand t identifier (in_hand v.door.hand)))
  where
    go : (x y : Bool) → (unless (cond x (some 3) (cond y (some 7) none)) v.door [] (record { reply = done; buffer = []; door = v.door; effect = add (record { tep = t; role = role; identifier = identifier; secret = secret }) })).reply ≢ refused 6
    go true y e = let z : ◌≡◌ {A = ℕ} 3 6 = cc in omega arith
    go false true e = let z : ◌≡◌ {A = ℕ} 7 6 = cc in omega arith
    go false false e = let z : ◌≡◌ {A = ℕ} 0 1 = cc in omega arith
