-- Which of the two Init messages a reader gathers.
use Rattle.std.specs.Prelude.{Bool, true, false}
use Rattle.init_layout.specs.Layout.{Init, init1, init2}

abbrev pub kind_of : (two : Bool) → Init
kind_of false = init1
kind_of true = init2
