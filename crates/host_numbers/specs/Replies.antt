-- The unit's reply in plain numbers. A number that a kind of reply does not have is 0.
use Rattle.std.specs.Prelude.{ℕ, ◌+◌}
use Rattle.door.specs.Door.{Phase, phase_number}
use Rattle.door.specs.Outcome.{Reply, refused, written, plain, now_in, encrypted, done, holds}
use Rattle.host_reply.specs.Numbers.{of_kind, plain_numbers, way_number}
use Rattle.host_reply.specs.declared.ReplyNumbers.{ReplyNumbers}

-- a phase as a reply tells it: its number from 0x1000000 on, where no refusal, reason, count or length of a reply lies
unfoldable pub phase_told : Phase → ℕ
phase_told p = 0x1000000 + phase_number p

-- document 01's reply in plain numbers
unfoldable pub numbers_of : Reply → ReplyNumbers
numbers_of (refused n) = of_kind 0 n
numbers_of (written n) = of_kind 1 n
numbers_of (plain c) = plain_numbers c
numbers_of (now_in p) = of_kind 3 (phase_told p)
numbers_of (encrypted role byte way n secret) = record { number = n; kind = 4; role = role; tep = byte; resumed = way_number way; place = 0; option = 0 }
numbers_of done = of_kind 5 0
numbers_of (holds n) = of_kind 6 n
