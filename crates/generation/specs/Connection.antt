-- Laws of a connection, over every list of steps from the first record. Assumes nothing.
use Rattle.std.specs.Prelude.{ℕ, ◌+◌, ◌≤◌, ◌≡◌, List, [], ◌∷◌, ◌++◌, Bool, true, false, cond}
use Rattle.generation.specs.Steps.{Reply, refused, sent, received, Ask, send, initiate, receive, first, most_generation, outcome}
use Rattle.generation.specs.declared.GenerationRecord.{GenerationRecord}

-- the record after a list of steps
unfoldable pub after : GenerationRecord → List Ask → GenerationRecord
after g [] = g
after g (k ∷ l) = after (outcome g k).next l

-- a frame that was sent
pub record Frame : Type 0 where
  pub generation : ℕ
  pub rekey : Bool
  pub fin : Bool

-- whether the frame of a step carries FINp
unfoldable pub fin_of : Ask → Bool
fin_of (send fin) = fin
fin_of (initiate has_data fin) = fin
fin_of (receive rekey) = false

-- the frame that a step sends, if it sends one
unfoldable pub frame_of : Ask → Reply → List Frame
frame_of k (refused n) = []
frame_of k (sent generation rekey) = record { generation = generation; rekey = rekey; fin = fin_of k } ∷ []
frame_of k (received generation) = []

-- the frames that a list of steps sends, in order
unfoldable pub frames : GenerationRecord → List Ask → List Frame
frames g [] = []
frames g (k ∷ l) = frame_of k (outcome g k).reply ++ frames (outcome g k).next l

-- one for a rekey that was received
unfoldable pub rekey_of : Ask → Reply → ℕ
rekey_of (send fin) r = 0
rekey_of (initiate has_data fin) r = 0
rekey_of (receive rekey) (refused n) = 0
rekey_of (receive rekey) (sent generation b) = 0
rekey_of (receive rekey) (received generation) = cond rekey 1 0

-- how many rekeys a list of steps receives
unfoldable pub rekeys : GenerationRecord → List Ask → ℕ
rekeys g [] = 0
rekeys g (k ∷ l) = rekey_of k (outcome g k).reply + rekeys (outcome g k).next l

-- the generation of each frame is that of the frame before it or one more, and it carries rekey exactly when it is one more
abbrev pub Chained : ℕ → List Frame → Type 0
Chained n [] = Unit {0}
Chained n (f ∷ l) = (f.generation ≡ n + cond f.rekey 1 0) × Chained f.generation l

-- a frame with FINp is the last
abbrev pub FinLast : List Frame → Type 0
FinLast [] = Unit {0}
FinLast (f ∷ l) = (f.fin ≡ true → l ≡ []) × FinLast l

-- how many frames carry rekey
unfoldable pub rekeys_sent : List Frame → ℕ
rekeys_sent [] = 0
rekeys_sent (f ∷ l) = cond f.rekey 1 0 + rekeys_sent l

-- local is never below remote, nor below last-used, and no number passes 65,535
pub record Within (g : GenerationRecord) : Type 0 where
  pub remote_within : g.remote ≤ g.local
  pub last_within : g.last ≤ g.local
  pub most : g.local ≤ most_generation

-- a connection: every list of steps from the first record
pub record Connection (l : List Ask) : Type 0 where
  pub generations : Chained 0 (frames first l)
  pub remote_is : (after first l).remote ≡ rekeys first l
  pub last_is : (after first l).last ≡ rekeys_sent (frames first l)
  pub bounds : Within (after first l)
  pub fin_is_last : FinLast (frames first l)
