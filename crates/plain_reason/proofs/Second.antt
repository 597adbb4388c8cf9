-- Why a second SYN ends in plain TCP, by the tests of the code.
use Prim.Native.Nat.{ℕ, ◌≤◌, min}
use mathlib.Core.Path.{◌≡◌, refl, sym, ◌∙◌, ap}
use Rattle.std.specs.Prelude.{Some, None}
use Rattle.std.specs.Prelude as code
use mathlib.Core.List.{List}
use mathlib.Core.Bool.{Bool, true, false, cond, not}
use mathlib.Core.Option.{Option, none, some}
use native.Mathlib.Omega.{arith}
use lib.ListN.{length, take}
use Rattle.wire.specs.Bytes.{same_bytes}
use Rattle.eno.specs.Area.{finding, part_of, syn_option}
use Rattle.eno.specs.Suboption.{suboptions, is_ill_formed}
use Rattle.eno.specs.Cause.{numbered, blame, first_cause}
use Rattle.eno.specs.Judge.{is_unreadable, is_missing}
use Rattle.eno.proofs.Laws.Found.{found_short}
use Rattle.eno.specs.declared.Cause.{Cause}
use Rattle.suboptions.specs.Summary.{summary_of}
use Rattle.suboptions.proofs.Laws.{summary_says}
use Rattle.suboptions.specs.declared.Summary.{Summary}
use Rattle.door.specs.Door.{peer_option}
use Rattle.door.specs.Receive.{second_reason}
use Rattle.door.specs.declared.Door.{Door}
use Rattle.door_data.specs.Laws.{peer_taken}
use Rattle.plain_reason.specs.Reasons.{as_cause, absence_of}

nothing-is-some : {P : Type 0} (c : Cause) → ◌≡◌ {A = code.Option Cause} None (Some c) → P
nothing-is-some c e = let z : ◌≡◌ {A = ℕ} 0 1 = cc in absurd (omega arith)

module _ (d : Door) (area : List ℕ) (a : code.Option Cause) (is : a ≡ as_cause (absence_of area true)) where
  -- the causes of a second option, and those of an area without one before them
  abbrev rest_reason : Bool → List ℕ → Option Cause
  rest_reason ill o = cond ill (some (numbered 3)) (cond (not (same_bytes o (peer_option d))) (some (numbered 7)) none)

  abbrev either_reason : (u m : Bool) → Option Cause → code.Option Cause
  either_reason u m rest = as_cause (cond u (some (blame (finding area true))) (cond m (some (numbered 2)) rest))

  abbrev all_reasons : Option Cause
  all_reasons = rest_reason (is_ill_formed (suboptions (syn_option area))) (syn_option area)

  pub second_absent : (c : Cause) → a ≡ Some c → Some c ≡ as_cause (second_reason d area)
  unfolding second_reason absence_of first_cause
  second_absent c e = go (is_unreadable (finding area true)) (is_missing (finding area true)) (sym e ∙ is)
    where
      go : (u m : Bool) → Some c ≡ either_reason u m none → Some c ≡ either_reason u m all_reasons
      go true m q = q
      go false true q = q
      go false false q = nothing-is-some c (sym q)

  module _ (none-absent : a ≡ None) (o : List ℕ) (eo : o ≡ part_of area (finding area true)) (s : Summary) (es : s ≡ summary_of o) where
    within : length o ≤ 255
    within = let h = found_short area true o eo in omega arith

    present : as_cause (second_reason d area) ≡ as_cause (rest_reason s.ill_formed o)
    unfolding second_reason absence_of first_cause syn_option
    present = go (is_unreadable (finding area true)) (is_missing (finding area true)) (sym none-absent ∙ is) ∙ ap as_cause rest
      where
        go : (u m : Bool) → None ≡ either_reason u m none → either_reason u m all_reasons ≡ as_cause all_reasons
        go true m q = nothing-is-some (blame (finding area true)) q
        go false true q = nothing-is-some (numbered 2) q
        go false false q = refl

        rest : all_reasons ≡ rest_reason s.ill_formed o
        rest =
            sym (
            ap (λ b. rest_reason b o) (ap (λ (x : Summary). x.ill_formed) (es ∙ summary_says o within))
            ∙ ap (λ l. rest_reason (is_ill_formed (suboptions l)) l) eo
            )

    pub second_ill : s.ill_formed ≡ true → Some (numbered 3) ≡ as_cause (second_reason d area)
    second_ill e = sym (present ∙ simp e)

    module _ (well : s.ill_formed ≡ false) (k : ℕ) (ek : k ≡ min d.peer_length 40) (t : Bool) (et : t ≡ same_bytes o (take k d.peer)) where
      compared : t ≡ same_bytes o (peer_option d)
      compared = et ∙ ap (same_bytes o) (peer_taken d k ek)

      pub second_same : t ≡ true → None ≡ as_cause (second_reason d area)
      second_same e = sym (present ∙ simp (well, ← compared, e))

      pub second_altered : t ≡ false → Some (numbered 7) ≡ as_cause (second_reason d area)
      second_altered e = sym (present ∙ simp (well, ← compared, e))
