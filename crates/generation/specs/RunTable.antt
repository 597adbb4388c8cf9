-- Runs of generation records, worked out: one table and one claim about all rows, closed by computation.
use Rattle.std.specs.Prelude.{ℕ, List, [], ◌∷◌, Bool, true, false}
use Rattle.generation.specs.Steps.{Reply, refused, sent, received, Ask, send, initiate, receive, first, outcome}
use Rattle.generation.specs.Connection.{after}
use Rattle.generation.specs.declared.GenerationRecord.{GenerationRecord}

-- local, remote, last-used, FINp
abbrev at : ℕ → ℕ → ℕ → Bool → GenerationRecord
at local remote last fin = record { local = local; remote = remote; last = last; fin = fin }

pub record Run : Type 0 where
  pub from : GenerationRecord
  pub steps : List Ask

pub record Result : Type 0 where
  pub replies : List Reply
  pub end : GenerationRecord

unfoldable pub replies : GenerationRecord → List Ask → List Reply
replies g [] = []
replies g (k ∷ l) = (outcome g k).reply ∷ replies (outcome g k).next l

unfoldable pub result : Run → Result
result r = record { replies = replies r.from r.steps; end = after r.from r.steps }

abbrev row : GenerationRecord → List Ask → List Reply → GenerationRecord → Run × Result
row g steps told end = (record { from = g; steps = steps }, record { replies = told; end = end })

unfoldable pub table : List (Run × Result)
table =
    -- two rekeys received before a send: local follows, and each is answered by one frame with rekey
    row first (receive true ∷ receive true ∷ send false ∷ send false ∷ send false ∷ []) (received 1 ∷ received 2 ∷ sent 1 true ∷ sent 2 true ∷ sent 2 false ∷ []) (at 2 2 2 false)
    -- initiating without data a second time before the other side followed, then with data
    ∷ row first (initiate false false ∷ initiate false false ∷ initiate true false ∷ []) (sent 1 true ∷ refused 15 ∷ sent 2 true ∷ []) (at 2 0 2 false)
    -- the other side's answer raises remote alone
    ∷ row first (initiate false false ∷ receive true ∷ send false ∷ initiate false false ∷ []) (sent 1 true ∷ received 1 ∷ sent 1 false ∷ sent 2 true ∷ []) (at 2 1 2 false)
    -- initiating while a rekey frame is owed
    ∷ row first (receive true ∷ initiate true false ∷ send false ∷ initiate true false ∷ []) (received 1 ∷ refused 4 ∷ sent 1 true ∷ sent 2 true ∷ []) (at 2 1 2 false)
    -- FINp on the frame that was owed, and nothing after it
    ∷ row first (receive true ∷ send true ∷ send false ∷ initiate true false ∷ receive true ∷ []) (received 1 ∷ sent 1 true ∷ refused 14 ∷ refused 14 ∷ received 2 ∷ []) (at 2 2 1 true)
    -- nothing is owed after FINp, local follows, and last-used is left
    ∷ row (at 1 1 0 true) (initiate true false ∷ send false ∷ []) (refused 14 ∷ refused 14 ∷ []) (at 1 1 0 true)
    ∷ row (at 2 2 1 true) (receive true ∷ initiate false false ∷ []) (received 3 ∷ refused 14 ∷ []) (at 3 3 1 true)
    ∷ row (at 5 0 3 true) (receive true ∷ initiate true true ∷ []) (received 1 ∷ refused 14 ∷ []) (at 5 1 3 true)
    ∷ row (at 2 2 0 false) (send true ∷ receive true ∷ initiate true false ∷ send false ∷ []) (sent 1 true ∷ received 3 ∷ refused 14 ∷ refused 14 ∷ []) (at 3 3 1 true)
    -- any record: local follows from afar; a record whose last-used is above local
    ∷ row (at 0 5 0 false) (receive true ∷ []) (received 6 ∷ []) (at 6 6 0 false)
    ∷ row (at 3 0 10 false) (initiate true false ∷ []) (sent 10 false ∷ []) (at 4 0 10 false)
    -- the last generation
    ∷ row (at 65535 0 65535 true) (initiate false false ∷ []) (refused 13 ∷ []) (at 65535 0 65535 true)
    ∷ row (at 65535 65535 0 true) (initiate false false ∷ []) (refused 13 ∷ []) (at 65535 65535 0 true)
    ∷ row (at 65535 65535 65534 false) (receive false ∷ receive true ∷ send false ∷ send false ∷ []) (received 65535 ∷ refused 13 ∷ sent 65535 true ∷ sent 65535 false ∷ []) (at 65535 65535 65535 false)
    ∷ []
