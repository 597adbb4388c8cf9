-- A run of items, each of which says where the next begins: the options of an area, the suboptions of an option.
use Rattle.std.specs.Prelude.{ℕ, zero, suc, ◌-◌, List, [], ◌∷◌, map}

-- what stands at a place: nothing more, a fault, or an item and the place after it
pub data Piece (F X : Type 0) : Type 0 where
  end : Piece F X
  fault : F → Piece F X
  item : X → ℕ → Piece F X

-- what a walk reads: all items, or the fault that it meets
pub data Reading (F X : Type 0) : Type 0 where
  readable : List X → Reading F X
  faulty : F → Reading F X

-- an item before those that follow it
abbrev pub before : {F X : Type 0} → X → Reading F X → Reading F X
before x (readable l) = readable (x ∷ l)
before x (faulty f) = faulty f

-- each item of a reading by its value
abbrev pub each : {F X Y : Type 0} → (X → Y) → Reading F X → Reading F Y
each g (readable l) = readable (map g l)
each g (faulty f) = faulty f

-- the items of a reading; none of a faulty one
abbrev pub listed : {F X : Type 0} → Reading F X → List X
listed (readable l) = l
listed (faulty f) = []

-- the items from place i on, at most `most` of them
unfoldable pub items : {F X : Type 0} → (ℕ → Piece F X) → ℕ → ℕ → Reading F X
items at zero i = readable []
items at (suc most) i = elim (at i) [ end ↦ readable [] | fault f ↦ faulty f | item x j ↦ before x (items at most j) ]

-- the items of n bytes from place i on: each has at least one byte
unfoldable pub items_of : {F X : Type 0} → (ℕ → Piece F X) → ℕ → ℕ → Reading F X
items_of at n i = items at (suc (n - i)) i
