-- What a result says of a door, and that the judge says resumed only with a record in hand.
use Rattle.std.proofs.Math.Path.{◌≡◌}
use Rattle.std.proofs.Common.{◌∙◌}
use Rattle.std.specs.Prelude.{◌&&◌, ◌||◌, ℕ, length}
use Rattle.std.proofs.Math.Bool.{true}
use mathlib.Core.List.{List, ◌∷◌}
use Rattle.wire.specs.Bytes.{pasted}
use Rattle.eno.specs.Judge.{Way, resumed, way_if}
use Rattle.door.specs.Door.{transcript_of}
use Rattle.door.specs.Receive as r
use Rattle.door.specs.Receive.{secret_of}
use Rattle.door.specs.Calls.{result}
use Rattle.door.specs.declared.Door.{Door}
use Rattle.unit.specs.Resumption.{is_open_now}

-- what a result that names a TEP says of the door
pub record Names (e : Door) (s : List ℕ) (role byte : ℕ) (way : Way) (n : ℕ) (secret : List ℕ) : Type 0 where
  pub in_open : is_open_now e ≡ true
  pub role_is : e.role ≡ role
  pub byte_is : e.tep ≡ byte
  pub way_is : way_if e.resumed ≡ way
  pub length_is : length (transcript_of e) ≡ n
  pub secret_is : secret_of e ≡ secret
  pub buffer_is : (r.result e s).buffer ≡ pasted s 0 (transcript_of e)
