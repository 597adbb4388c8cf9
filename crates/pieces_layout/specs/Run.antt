-- Pieces, one after the other: after an item the piece is given again without the bytes that were used.
use Rattle.std.specs.Prelude.{ℕ, zero, suc, List, [], ◌∷◌, ◌++◌, length, drop}
use Rattle.pieces_layout.specs.Reader.{Reader, position_of}
use Rattle.pieces_layout.specs.Step.{Item, Told, waiting, item, refused, short, Taken, fed}

-- an item, and how many bytes of the stream were taken when it was told
pub record Report : Type 0 where
  pub item : Item
  pub after : ℕ

-- all items, and the reader in the end, in which a refusal is noted with its position
pub record Ran : Type 0 where
  pub reports : List Report
  pub reader : Reader

abbrev pub ran : List Report → Reader → Ran
ran l r = record { reports = l; reader = r }

abbrev pub reported : Item → Reader → Ran → Ran
reported x r y = ran (record { item = x; after = position_of r } ∷ y.reports) y.reader

-- one piece, in at most so many calls
unfoldable pub drained : (calls : ℕ) → Reader → (piece : List ℕ) → Ran
drained zero r p = ran [] r
drained (suc n) r p = elim (fed r p).told [
  | waiting ↦ ran [] (fed r p).reader
  | item x ↦ reported x (fed r p).reader (drained n (fed r p).reader (drop (fed r p).used p))
  | refused k q ↦ ran [] (fed r p).reader
  | short ↦ ran [] (fed r p).reader
]

-- one piece after the other: an item has at least one byte, so one call more than the piece has bytes is enough
unfoldable pub run : Reader → (pieces : List (List ℕ)) → Ran
run r [] = ran [] r
run r (p ∷ ps) = let x = drained (suc (length p)) r p in let y = run x.reader ps in ran (x.reports ++ y.reports) y.reader

-- the pieces in a row
unfoldable pub joined : List (List ℕ) → List ℕ
joined [] = []
joined (p ∷ ps) = p ++ joined ps
