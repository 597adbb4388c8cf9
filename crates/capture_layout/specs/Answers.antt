-- The answers of checker and writer in document 02's numbers; each view loses nothing.
use Rattle.std.specs.Prelude.{ℕ, Result, Ok, Err}
use Rattle.eno.specs.Option.{Writing, wrote}
use Rattle.eno.specs.Option as o
use Rattle.capture_layout.specs.Checking.{Checked, sound, refused_with}
use Rattle.capture_layout.specs.declared.CaptureRefusal.{CaptureRefusal}
use Rattle.capture_layout.specs.declared.CaptureRefusal.TheVariants as r
use Rattle.capture_layout.specs.declared.CaptureWriteRefusal.{CaptureWriteRefusal}
use Rattle.capture_layout.specs.declared.CaptureWriteRefusal.TheVariants as w

-- 18 size or count, 19 a body past the end, 20 a body elsewhere or a rest, 1 no such door, 2 an area above 40 bytes, 21 a setting
abbrev pub capture_number : CaptureRefusal → ℕ
capture_number r.Size = 18
capture_number r.PastEnd = 19
capture_number r.Misplaced = 20
capture_number r.NoDoor = 1
capture_number r.AreaTooLong = 2
capture_number r.BadSetting = 21

abbrev pub check_of : Result ℕ CaptureRefusal → Checked
check_of (Ok n) = sound n
check_of (Err x) = refused_with (capture_number x)

-- 5 for a lent buffer that is too short
abbrev pub writing_of : Result ℕ CaptureWriteRefusal → Writing
writing_of (Ok n) = wrote n
writing_of (Err (w.Refused x)) = o.refused_with (capture_number x)
writing_of (Err w.NoRoom) = o.refused_with 5
