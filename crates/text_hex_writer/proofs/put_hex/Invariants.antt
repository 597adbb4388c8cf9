-- `put_hex` meets its contract: the loop's invariant is that the digits of the first i bytes are put.
use Prim.Native.Nat.{◌+◌, ◌-◌, ◌*◌, ◌≤◌}
use mathlib.Core.Path.{◌≡◌}
use lib.ListN.{length, take}
use Rattle.wire.specs.Bytes.{pasted}
use Rattle.text_hex.specs.Hex.{hex_digits}
use Rattle.text_hex_writer.proofs.put_hex.Given as goal

abbrev pub invariant-loop-byte : goal.invariant-loop-byte
invariant-loop-byte l = (l.end ≡ l.at + 2 * l.byte-index) × (length l.out ≡ length l.initial.out) × (l.out ≡ pasted l.initial.out l.at (hex_digits (take l.byte-index l.bytes)))
