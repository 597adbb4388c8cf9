-- `wire_reader::bytes_from` meets its contract: the first k bytes are read.
use Rattle.std.proofs.Common.{◌≡◌, length, take}
use Rattle.wire.specs.Bytes.{bytes_from}
use Rattle.wire_reader.proofs.bytes_from.Given as goal

abbrev pub invariant-loop-k : goal.invariant-loop-k
invariant-loop-k g l = (length l.bytes ≡ g.row.N) × (take l.k l.bytes ≡ bytes_from l.k l.s l.at)
