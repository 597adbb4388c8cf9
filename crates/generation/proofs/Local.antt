-- Local from above, over every list of steps: the greatest of the generations that it was raised to. Assumes nothing.
use Rattle.std.specs.Prelude.{ℕ, ◌+◌, ◌≤◌, ◌≡◌, refl, List, [], ◌∷◌, ◌++◌, Bool, true, false, cond, ◌⊎◌}
use Rattle.std.proofs.Common.{subst, inl, inr, arith}
use Rattle.generation.specs.Steps.{Outcome, Ask, outcome}
use Rattle.generation.specs.LocalStep.{is_initiated, is_rekey, LocalAfter, as_before, one_more, remote_now}
use Rattle.generation.proofs.LocalStep.{local_after}
use Rattle.generation.specs.Connection.{after}
use Rattle.generation.specs.declared.GenerationRecord.{GenerationRecord}
use Rattle.generation.specs.Local.{Among, Greatest, brought_by, brought}

-- one more of the list, not above another
module _ (n a b : ℕ) (l : List ℕ) where
  before_it : a ≤ b → Greatest n (b ∷ l) → Greatest n (a ∷ b ∷ l)
  before_it h s = record { among = inr s.among; none_above = (omega (arith, s.none_above.0), s.none_above) }

  after_it : b ≤ a → Greatest n (a ∷ l) → Greatest n (a ∷ b ∷ l)
  after_it h s = record { among = go s.among; none_above = (s.none_above.0, (omega (arith, s.none_above.0), s.none_above.1)) }
    where
      go : (n ≡ a) ⊎ Among n l → (n ≡ a) ⊎ ((n ≡ b) ⊎ Among n l)
      go (inl e) = inl e
      go (inr r) = inr (inr r)

module _ (g : GenerationRecord) (k : Ask) (o : Outcome) (n : ℕ) (l : List ℕ) where
  from_next : (m : ℕ) → o.next.local ≡ m → Greatest n (o.next.local ∷ l) → Greatest n (m ∷ l)
  from_next m e s = subst (λ x. Greatest n (x ∷ l)) e s

  brought_is : (a b : Bool) → is_initiated k o.reply ≡ a → is_rekey k o.reply ≡ b
      → cond a ((g.local + 1) ∷ []) (cond b (o.next.remote ∷ []) []) ++ l ≡ brought_by g k o ++ l
  unfolding brought_by
  brought_is a b p q = rw (p, q)

  greatest_step : LocalAfter g k o → Greatest n (o.next.local ∷ l) → Greatest n (g.local ∷ (brought_by g k o ++ l))
  greatest_step (as_before p q e) s = go (is_rekey k o.reply) refl
    where
      go : (b : Bool) → is_rekey k o.reply ≡ b → Greatest n (g.local ∷ (brought_by g k o ++ l))
      go true r = subst (λ m. Greatest n (g.local ∷ m)) (brought_is false true p r) (after_it n g.local o.next.remote l (q r) (from_next g.local e s))
      go false r = subst (λ m. Greatest n (g.local ∷ m)) (brought_is false false p r) (from_next g.local e s)
  greatest_step (one_more p e) s =
      subst (λ m. Greatest n (g.local ∷ m)) (brought_is true (is_rekey k o.reply) p refl) (before_it n g.local (g.local + 1) l (omega arith) (from_next (g.local + 1) e s))
  greatest_step (remote_now p q h e) s =
      subst (λ m. Greatest n (g.local ∷ m)) (brought_is false true p q) (before_it n g.local o.next.remote l (omega arith) (from_next o.next.remote e s))

-- local is the greatest of the first record's local, the generations that initiating raised it to and the remote generations that came
pub local_greatest : (g : GenerationRecord) (l : List Ask) → Greatest (after g l).local (g.local ∷ brought g l)
unfolding after brought
local_greatest g [] = record { among = inl refl; none_above = (omega arith, tt) }
local_greatest g (k ∷ l) =
    greatest_step g k (outcome g k) (after (outcome g k).next l).local (brought (outcome g k).next l) (local_after g k) (local_greatest (outcome g k).next l)
