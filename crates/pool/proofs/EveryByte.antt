-- A call that leaves the unit as it was leaves every byte of the arrays as it was: for any content of the arrays' sizes, odd flags included.
use Rattle.std.specs.Prelude.{ℕ, ◌≤◌, ◌<◌, ◌≡◌, refl, Bool, true, false, List, [], eqb, get_or}
use Rattle.std.proofs.Common.{sym, ◌∙◌, ap, subst, arith, eqb-true, ext_get_or}
use Rattle.std.proofs.lemmas.Bool.{eqb-false}
use Rattle.door.specs.Door.{no_session}
use Rattle.unit.specs.Numbers.{doors_n, rows_n}
use Rattle.unit.specs.Unit.{position_at}
use Rattle.unit.specs.declared.LinkUnit.{LinkUnit}
use Rattle.unit_bytes.specs.Content.{position_in, unit_in}
use Rattle.unit_bytes.proofs.Whole.{door_in_lem, row_in}
use Rattle.unit_bytes.specs.Tells.{Sized, Same}
use Rattle.unit_bytes.proofs.Tells.{marks_in_lem, row_tells}
use Rattle.pool.specs.Placed.{DoorsKept}

pub every_byte : (marks marks' : List ℕ) (rows rows' doors doors' : List (List ℕ)) (d : ℕ) → Sized marks rows doors → Sized marks' rows' doors' → DoorsKept d doors doors'
    → unit_in marks' rows' doors' ≡ unit_in marks rows doors → Same marks' marks rows' rows doors' doors
every_byte marks marks' rows rows' doors doors' d s t kept e =
    record {
      marks_same = sym (marks_in_lem marks' rows' doors' t.all_marks) ∙ (ap (λ (u : LinkUnit). u.marks) e ∙ marks_in_lem marks rows doors s.all_marks);
      rows_same =
          ext_get_or [] rows' rows (t.all_rows ∙ sym s.all_rows)
          (λ i h.
          let k : i < rows_n = omega (arith, t.all_rows) in
          row_tells (get_or rows' i []) (get_or rows i []) (t.row_bytes i k) (s.row_bytes i k)
          (sym (row_in marks' rows' doors' i k) ∙ (ap (λ (u : LinkUnit). get_or u.rows i no_session) e ∙ row_in marks rows doors i k)));
      doors_same = ext_get_or [] doors' doors (t.all_doors ∙ sym s.all_doors) (λ i h. let k : i < doors_n = omega (arith, t.all_doors) in at i k (eqb i d) refl);
    }
  where
    says : (i : ℕ) → i < doors_n → position_in (get_or doors' i []) ≡ position_in (get_or doors i [])
    says i k = sym (door_in_lem marks' rows' doors' i k) ∙ (ap (λ (u : LinkUnit). position_at u i) e ∙ door_in_lem marks rows doors i k)

    at : (i : ℕ) → i < doors_n → (b : Bool) → eqb i d ≡ b → get_or doors' i [] ≡ get_or doors i []
    at i k true q = let z : i ≡ d = eqb-true i d q in subst (λ (j : ℕ). position_in (get_or doors' j []) ≡ position_in (get_or doors j []) → get_or doors' j [] ≡ get_or doors j []) (sym z) kept.own (says i k)
    at i k false q = kept.others i (eqb-false i d q)
