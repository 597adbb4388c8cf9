-- The rows of document 01's table that steps of a generation record meet, by number and in the table's words; the steps are defined without them.
use Rattle.std.specs.Prelude.{ℕ, ◌+◌, List, [], ◌∷◌, Bool, false, not, ◌&&◌, ltb}
use Rattle.refusals.specs.Rows.{marked}
use Rattle.generation.specs.Steps.{Ask, send, initiate, receive}
use Rattle.generation.specs.declared.GenerationRecord.{GenerationRecord}

-- 4: initiating while a rekey frame is owed
unfoldable pub number4 : GenerationRecord → Ask → Bool
number4 g (send fin) = false
number4 g (initiate has_data fin) = ltb g.last g.local && not g.fin
number4 g (receive rekey) = false

-- 13: a generation would pass 65,535
unfoldable pub number13 : GenerationRecord → Ask → Bool
number13 g (send fin) = ltb g.last g.local && ltb 65535 (g.last + 1)
number13 g (initiate has_data fin) = ltb 65535 (g.local + 1)
number13 g (receive rekey) = rekey && ltb 65535 (g.remote + 1)

-- 14: sending after FINp; initiating sends
unfoldable pub number14 : GenerationRecord → Ask → Bool
number14 g (send fin) = g.fin
number14 g (initiate has_data fin) = g.fin
number14 g (receive rekey) = false

-- 15: initiating without data while remote is below local
unfoldable pub number15 : GenerationRecord → Ask → Bool
number15 g (send fin) = false
number15 g (initiate has_data fin) = not has_data && ltb g.remote g.local
number15 g (receive rekey) = false

-- the rows, by number
unfoldable pub rows : GenerationRecord → Ask → List (Bool × ℕ)
rows g k = (number4 g k, 4) ∷ (number13 g k, 13) ∷ (number14 g k, 14) ∷ (number15 g k, 15) ∷ []

-- a row's number applies
unfoldable pub applies : GenerationRecord → Ask → ℕ → Bool
applies g k n = marked n (rows g k)
