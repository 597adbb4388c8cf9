-- A stream byte by byte, on over refusals: what the theorems go through. No definition cites it.
use Rattle.std.specs.Prelude.{ℕ, ◌≡◌, List, [], ◌∷◌, ◌++◌}
use Rattle.std.proofs.Common.{◌∙◌}
use Rattle.pieces_layout.specs.Reader.{Reader}
use Rattle.pieces_layout.specs.Step.{Told, waiting, item, refused, short, after_byte}
use Rattle.pieces_layout.specs.Run.{Ran, ran, reported}

unfoldable pub noting : Told → Reader → Ran → Ran
noting waiting r y = y
noting (item x) r y = reported x r y
noting (refused n p) r y = y
noting short r y = y

unfoldable pub each : Reader → List ℕ → Ran
each r [] = ran [] r
each r (b ∷ l) = noting (after_byte r b).told (after_byte r b).reader (each (after_byte r b).reader l)

abbrev pub both : Ran → Ran → Ran
both x y = ran (x.reports ++ y.reports) y.reader
