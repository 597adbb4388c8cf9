-- Demand 2, for lists of calls: what confirmed a connection, in the bytes of the segments that were received.
use Rattle.std.specs.Prelude.{◌≡◌, Bool, true, false, List, ℕ, ◌<◌}
use Rattle.std.proofs.Common.{◌∙◌}
use Rattle.eno.specs.Area.{found, finding, syn_option}
use Rattle.unit.specs.Run.{Call}
use Rattle.unit.specs.History.{door_after}
use Rattle.unit.specs.Connections.{Offered, Terms, JudgedBy}

-- the segment with these flags and this option area, received by door d after the calls `before`, confirms the connection
pub data Confirmation (d : ℕ) (before : List Call) (syn ack : Bool) (area : List ℕ) : Type 0 where
  -- the door has offered, and this SYN with ACK is the one that is judged
  that_syn : Offered (door_after d before) → syn ≡ true → ack ≡ true → Confirmation d before syn ack area
  -- a SYN was judged before, and this one, with ACK, brings the same option again
  same_again : (t : Terms) → JudgedBy d before t → syn ≡ true → ack ≡ true → syn_option area ≡ syn_option t.area → Confirmation d before syn ack area
  -- a SYN was judged before, and this non-SYN with ACK has an ENO option
  in_non_syn : (t : Terms) → JudgedBy d before t → syn ≡ false → ack ≡ true → (start len : ℕ) → finding area false ≡ found start len → Confirmation d before syn ack area
