-- The door that is built where a verdict is stored.
use Rattle.std.specs.Prelude.{◌≡◌, refl, Bool, true, false}
use Rattle.eno.specs.Judge.{is_resumed, way_if}

pub resumed_if : (b : Bool) → is_resumed (way_if b) ≡ b
resumed_if true = refl
resumed_if false = refl
