-- The way in which a TEP is valid, if it is, by the code's words for it; and that these lose nothing. Assumes nothing.
use Rattle.std.specs.Prelude.{◌≡◌, refl}
use Rattle.std.specs.Prelude as code
use Rattle.std.proofs.Common.{sym, ◌∙◌, ap}
use Rattle.std.proofs.Math.Option.{Option, none, some}
use Rattle.eno.specs.Judge.{Way, fresh, resumed}
use Rattle.eno.specs.declared.Way as declared
use Rattle.eno.specs.declared.Way.TheVariants as says

abbrev pub way_is : declared.Way → Way
way_is says.Fresh = fresh
way_is says.Resumed = resumed

abbrev pub way_as : code.Option declared.Way → Option Way
way_as code.None = none
way_as (code.Some w) = some (way_is w)

abbrev as_by : Way → declared.Way
as_by fresh = says.Fresh
as_by resumed = says.Resumed

abbrev as_way : Option Way → code.Option declared.Way
as_way none = code.None
as_way (some w) = code.Some (as_by w)

way_back : (v : code.Option declared.Way) → as_way (way_as v) ≡ v
way_back code.None = refl
way_back (code.Some says.Fresh) = refl
way_back (code.Some says.Resumed) = refl

pub way_tells : (v w : code.Option declared.Way) → way_as v ≡ way_as w → v ≡ w
way_tells v w e = sym (way_back v) ∙ (ap as_way e ∙ way_back w)
