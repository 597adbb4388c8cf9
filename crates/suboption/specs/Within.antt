-- The data of a TEP lies within the option: it ends where the next suboption begins. Assumes nothing.
use Rattle.std.specs.Prelude.{ℕ, suc, ◌+◌, ◌-◌, ◌≤◌, ◌<◌, ◌≡◌, refl, length}
use Rattle.std.proofs.Common.{sym, ◌∙◌, ap, arith}
use mathlib.Core.List.{List, [], ◌∷◌}
use Rattle.eno.specs.Walk.{item, listed, items_of}
use Rattle.eno.specs.Suboption.{Sent, Suboption, global, tep, suboption_at, suboptions, teps}
use Rattle.eno.specs.Judge.{teps_of}
use Rattle.eno.specs.Laws.Walk.{Every}
use Rattle.eno.proofs.Laws.Walk.{every_item}
use Rattle.eno.specs.Laws.Suboption.{SuboptionCase, a_global, a_bare, to_end, a_counted}
use Rattle.eno.proofs.Laws.Suboption.{suboption_case, suboption_onward}

module _ (o : List ℕ) where
  pub tep_ends : (i : ℕ) (x : Sent) (j : ℕ) → suboption_at o i ≡ item (tep x) j → x.start + x.len ≡ j
  tep_ends i x j e = go (suboption_case o i (tep x) j e)
    where
      go : SuboptionCase o i (tep x) j → x.start + x.len ≡ j
      go (a_global h g ex ej) = let z : ◌≡◌ {A = ℕ} 0 1 = cc in absurd (omega arith)
      go (a_bare h g t ex ej) = let s : x.start ≡ i + 1 = cc in let l : x.len ≡ 0 = cc in omega arith
      go (to_end h r ex ej) = let s : x.start ≡ i + 1 = cc in let l : x.len ≡ length o - (i + 1) = cc in omega arith
      go (a_counted n low high y en fits ex ej) = let s : x.start ≡ i + 2 = cc in let l : x.len ≡ n = cc in omega arith

  abbrev pub Within : Sent → Type 0
  Within x = x.start + x.len ≤ length o

  abbrev TepWithin : Suboption → Type 0
  TepWithin (global b) = Unit {0}
  TepWithin (tep x) = Within x

  within : (i : ℕ) (x : Suboption) (j : ℕ) → suboption_at o i ≡ item x j → TepWithin x
  within i (global b) j e = tt
  within i (tep x) j e =
      let q = tep_ends i x j e in
      let w = suboption_onward o i (tep x) j e in
      omega arith

  of_teps : (l : List Suboption) → Every TepWithin l → Every Within (teps l)
  unfolding teps
  of_teps [] h = tt
  of_teps (global b ∷ l) h = of_teps l h.1
  of_teps (tep x ∷ l) h = (h.0, of_teps l h.1)

  pub teps_within : Every Within (teps_of o)
  unfolding teps_of suboptions items_of
  teps_within = of_teps (listed (suboptions o)) (every_item TepWithin (suboption_at o) within (suc (length o - 2)) 2)
