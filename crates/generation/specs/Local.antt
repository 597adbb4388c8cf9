-- Local from above, over every list of steps: the greatest of the generations that it was raised to. Assumes nothing.
use Rattle.std.specs.Prelude.{ℕ, ◌+◌, ◌≤◌, ◌≡◌, List, [], ◌∷◌, ◌++◌, cond, ◌⊎◌}
use Rattle.generation.specs.Steps.{Outcome, Ask, outcome}
use Rattle.generation.specs.LocalStep.{is_initiated, is_rekey}
use Rattle.generation.specs.declared.GenerationRecord.{GenerationRecord}

-- the greatest of a list
abbrev pub Among : ℕ → List ℕ → Type 0
Among n [] = ⊥
Among n (m ∷ l) = (n ≡ m) ⊎ Among n l

abbrev pub NoneAbove : ℕ → List ℕ → Type 0
NoneAbove n [] = Unit {0}
NoneAbove n (m ∷ l) = (m ≤ n) × NoneAbove n l

pub record Greatest (n : ℕ) (l : List ℕ) : Type 0 where
  pub among : Among n l
  pub none_above : NoneAbove n l

-- what a step brings: one more than local if it is an accepted initiate, remote after it if it is a received rekey
unfoldable pub brought_by : GenerationRecord → Ask → Outcome → List ℕ
brought_by g k o = cond (is_initiated k o.reply) ((g.local + 1) ∷ []) (cond (is_rekey k o.reply) (o.next.remote ∷ []) [])

-- the generations that initiating raised local to and the remote generations that came, in order
unfoldable pub brought : GenerationRecord → List Ask → List ℕ
brought g [] = []
brought g (k ∷ l) = brought_by g k (outcome g k) ++ brought (outcome g k).next l
