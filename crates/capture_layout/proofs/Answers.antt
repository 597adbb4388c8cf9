-- The answers of checker and writer in document 02's numbers; each view loses nothing.
use Rattle.std.specs.Prelude.{ℕ, ◌≡◌, refl, cond, eqb, Result, Ok, Err}
use Rattle.std.proofs.Common.{sym, ◌∙◌, ap}
use Rattle.eno.specs.Option.{Writing, wrote}
use Rattle.eno.specs.Option as o
use Rattle.capture_layout.specs.Checking.{Checked, sound, refused_with}
use Rattle.capture_layout.specs.declared.CaptureRefusal.{CaptureRefusal}
use Rattle.capture_layout.specs.declared.CaptureRefusal.TheVariants as r
use Rattle.capture_layout.specs.declared.CaptureWriteRefusal.{CaptureWriteRefusal}
use Rattle.capture_layout.specs.declared.CaptureWriteRefusal.TheVariants as w
use Rattle.capture_layout.specs.Answers.{capture_number, check_of, writing_of}

-- the views lose nothing: an answer is read back from its numbers
abbrev refusal_in : ℕ → CaptureRefusal
refusal_in n = cond (eqb n 18) r.Size (cond (eqb n 19) r.PastEnd (cond (eqb n 20) r.Misplaced (cond (eqb n 1) r.NoDoor (cond (eqb n 2) r.AreaTooLong r.BadSetting))))

refusal_back : (x : CaptureRefusal) → refusal_in (capture_number x) ≡ x
refusal_back r.Size = refl
refusal_back r.PastEnd = refl
refusal_back r.Misplaced = refl
refusal_back r.NoDoor = refl
refusal_back r.AreaTooLong = refl
refusal_back r.BadSetting = refl

pub capture_number_tells : (x y : CaptureRefusal) → capture_number x ≡ capture_number y → x ≡ y
capture_number_tells x y e = sym (refusal_back x) ∙ (ap refusal_in e ∙ refusal_back y)

abbrev check_in : Checked → Result ℕ CaptureRefusal
check_in (sound n) = Ok n
check_in (refused_with n) = Err (refusal_in n)

check_back : (x : Result ℕ CaptureRefusal) → check_in (check_of x) ≡ x
check_back (Ok n) = refl
check_back (Err x) = ap Err (refusal_back x)

pub check_tells : (x y : Result ℕ CaptureRefusal) → check_of x ≡ check_of y → x ≡ y
check_tells x y e = sym (check_back x) ∙ (ap check_in e ∙ check_back y)

abbrev written_in : Writing → Result ℕ CaptureWriteRefusal
written_in (wrote n) = Ok n
written_in (o.refused_with n) = cond (eqb n 5) (Err w.NoRoom) (Err (w.Refused (refusal_in n)))

written_back : (x : Result ℕ CaptureWriteRefusal) → written_in (writing_of x) ≡ x
written_back (Ok n) = refl
written_back (Err (w.Refused r.Size)) = refl
written_back (Err (w.Refused r.PastEnd)) = refl
written_back (Err (w.Refused r.Misplaced)) = refl
written_back (Err (w.Refused r.NoDoor)) = refl
written_back (Err (w.Refused r.AreaTooLong)) = refl
written_back (Err (w.Refused r.BadSetting)) = refl
written_back (Err w.NoRoom) = refl

pub writing_tells : (x y : Result ℕ CaptureWriteRefusal) → writing_of x ≡ writing_of y → x ≡ y
writing_tells x y e = sym (written_back x) ∙ (ap written_in e ∙ written_back y)
