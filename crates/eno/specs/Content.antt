-- The suboptions of an option by their values.
use Rattle.std.specs.Prelude.{ℕ, List}
use Rattle.wire.specs.Bytes.{part}
use Rattle.eno.specs.Walk.{Reading, each}
use Rattle.eno.specs.Suboption.{Suboption, global, tep, suboptions}
use Rattle.eno.specs.Option.{Content, global_with, tep_with}

-- a suboption of the option o, with its data
unfoldable pub content_of : List ℕ → Suboption → Content
content_of o (global x) = global_with x
content_of o (tep x) = tep_with x.counted x.byte (part x.start x.len o)

unfoldable pub contents : List ℕ → Reading (Unit {0}) Content
contents o = each (content_of o) (suboptions o)
