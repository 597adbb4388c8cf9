-- Local from above: what one step makes of it, for every record. Assumes nothing.
use Rattle.std.specs.Prelude.{◌+◌, ◌≤◌, ◌<◌, ◌≡◌, Bool, true, false}
use Rattle.generation.specs.Steps.{Reply, refused, sent, received, Outcome, Ask, send, initiate, receive}
use Rattle.generation.specs.declared.GenerationRecord.{GenerationRecord}

-- an accepted initiate
unfoldable pub is_initiated : Ask → Reply → Bool
is_initiated (send fin) r = false
is_initiated (initiate has_data fin) (refused n) = false
is_initiated (initiate has_data fin) (sent generation rekey) = true
is_initiated (initiate has_data fin) (received generation) = false
is_initiated (receive rekey) r = false

-- a received rekey
unfoldable pub is_rekey : Ask → Reply → Bool
is_rekey (send fin) r = false
is_rekey (initiate has_data fin) r = false
is_rekey (receive rekey) (refused n) = false
is_rekey (receive rekey) (sent generation b) = false
is_rekey (receive rekey) (received generation) = rekey

-- local after a step is local before, or one more (only an accepted initiate), or remote after it (only a received rekey that took remote above local)
pub data LocalAfter (g : GenerationRecord) (k : Ask) (o : Outcome) : Type 0 where
  as_before : is_initiated k o.reply ≡ false → (is_rekey k o.reply ≡ true → o.next.remote ≤ g.local) → o.next.local ≡ g.local → LocalAfter g k o
  one_more : is_initiated k o.reply ≡ true → o.next.local ≡ g.local + 1 → LocalAfter g k o
  remote_now : is_initiated k o.reply ≡ false → is_rekey k o.reply ≡ true → g.local < o.next.remote → o.next.local ≡ o.next.remote → LocalAfter g k o
