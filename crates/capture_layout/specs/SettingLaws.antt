-- A setting means its layout, both ways: bytes are read as a setting exactly where they are the setting's encoding. Assumes nothing.
use Rattle.std.specs.Prelude.{◌≤◌, ◌≡◌}
use Rattle.std.proofs.Math.Option.{Option, none, some}
use Rattle.std.proofs.Math.ListN.{length}
use Rattle.eno.specs.declared.SessionRecord.{SessionRecord}
use Rattle.capture_layout.specs.Setting.{SettingValue}

-- a record's identifier has 18 bytes, its secret 32
abbrev pub RecordFits : Option SessionRecord → Type 0
RecordFits none = Unit {0}
RecordFits (some r) = (length r.identifier ≡ 18) × (length r.secret ≡ 32)

-- values that a setting may have
pub record Proper (x : SettingValue) : Type 0 where
  pub role : x.b ≤ 1
  pub fits : RecordFits x.hand
