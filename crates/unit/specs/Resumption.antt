-- Demand 2, for lists of calls: for a door, no record's identifier opens more resumed connections than times it was stored.
use Rattle.std.specs.Prelude.{◌≡◌, Bool, ◌&&◌, ◌||◌}
use Rattle.std.proofs.Common.{◌∙◌}
use Rattle.std.proofs.Math.Bool.{true, false}
use Rattle.std.proofs.Math.Option.{Option, none, some}
use mathlib.Core.List.{List, [], ◌∷◌, ◌++◌}
use Prim.Native.Nat.{ℕ, ◌+◌, ◌≤◌, ◌<◌}
use Rattle.eno.specs.Session.{in_hand}
use Rattle.eno.specs.declared.SessionRecord.{SessionRecord}
use Rattle.door.specs.Door.{phase_of}
use Rattle.door.specs.Outcome.{Reply, refused, written, plain, now_in, encrypted, done, holds}
use Rattle.door.specs.Receive as r
use Rattle.door.specs.Receive.{is_open}
use Rattle.door.specs.Calls.{Ask, offer, answer, receive, resend, result, close, store, forget, count}
use Rattle.door.specs.Calls as door
use Rattle.door.specs.declared.Door.{Door}
use Rattle.unit.specs.Run.{Moment}

abbrev pub one : Bool → ℕ
one true = 1
one false = 0

-- a record in hand that passes a test
abbrev pub in_hand_that : (SessionRecord → Bool) → Option SessionRecord → ℕ
in_hand_that p none = 0
in_hand_that p (some r) = one (p r)

abbrev pub is_open_now : Door → Bool
is_open_now d = is_open (phase_of d.phase)

-- a connection opens resumed: the door is Open after a call and not before it, and a record is in hand
abbrev pub opening : (was is : Bool) → ℕ → ℕ
opening true is n = 0
opening false true n = n
opening false false n = 0

abbrev pub opens_by : (SessionRecord → Bool) → Door → Door → ℕ
opens_by p d e = opening (is_open_now d) (is_open_now e) (in_hand_that p (in_hand e.hand))

-- an accepted store
unfoldable pub accepted_by : (SessionRecord → Bool) → Ask → Reply → ℕ
accepted_by p (offer b aware mandatory list resume nonce s) x = 0
accepted_by p (answer area aware mandatory list nonce s) x = 0
accepted_by p (receive syn ack area) x = 0
accepted_by p (resend s) x = 0
accepted_by p (result s) x = 0
accepted_by p close x = 0
accepted_by p (store t role identifier secret) (refused n) = 0
accepted_by p (store t role identifier secret) (written n) = 0
accepted_by p (store t role identifier secret) (plain n) = 0
accepted_by p (store t role identifier secret) (now_in q) = 0
accepted_by p (store t role identifier secret) (encrypted role' byte way n key) = 0
accepted_by p (store t role identifier secret) done = one (p (record { tep = t; role = role; identifier = identifier; secret = secret }))
accepted_by p (store t role identifier secret) (holds n) = 0
accepted_by p (forget t identifier) x = 0
accepted_by p count x = 0

-- how many resumed connections the records that pass p open, and how often such a record is stored
unfoldable pub opens : (SessionRecord → Bool) → List Moment → ℕ
opens p [] = 0
opens p (m ∷ ms) = opens_by p m.before.door m.then.door + opens p ms

unfoldable pub stores : (SessionRecord → Bool) → List Moment → ℕ
stores p [] = 0
stores p (m ∷ ms) = accepted_by p m.ask m.told.reply + stores p ms
