-- What it means that a message is whole at hand, and the converse. Assumes nothing.
use Rattle.std.specs.Prelude.{ℕ, ◌≤◌, ◌≡◌, refl, List, Bool, true, false, cond, not, ltb, length}
use Rattle.std.proofs.Common.{sym, ◌∙◌, ap, arith, ltb-true, ltb-false}
use Rattle.init_layout.specs.Layout.{most_length}
use Rattle.init_layout.specs.Reading.{agrees, length_at, Standing, unreadable, incomplete, whole, standing}
use Rattle.init_layout.specs.StandingLaws.{Hopeful, Whole}

-- what each standing means
abbrev Means : (m : List ℕ) (fields : ℕ) (p : List ℕ) → Standing → Type 0
Means m fields p unreadable = Hopeful m fields p → ⊥
Means m fields p incomplete = Hopeful m fields p × (Whole m fields p → ⊥)
Means m fields p (whole n) = Whole m fields p × (n ≡ length_at p)

differ : {A : Type 0} → true ≡ false → A
differ e = let z : ◌≡◌ {A = ℕ} 0 1 = cc in absurd (omega arith)

pub standing_means : (m : List ℕ) (fields : ℕ) (p : List ℕ) → Means m fields p (standing m fields p)
unfolding standing
standing_means m fields p = go1 (agrees m p) refl
  where
    go5 : agrees m p ≡ true → length_at p ≤ most_length → 8 ≤ length p → fields ≤ length_at p → (b : Bool) → ltb (length p) (length_at p) ≡ b
        → Means m fields p (cond b incomplete (whole (length_at p)))
    go5 a l h f true e =
        let q = ltb-true (length p) (length_at p) e in
        (record { magic = a; most = l; enough = λ _. f }, λ w. omega (arith, w.all))
    go5 a l h f false e =
        let q = ltb-false (length p) (length_at p) e in
        (record { hopeful = record { magic = a; most = l; enough = λ _. f }; head = h; all = q }, refl)

    go4 : agrees m p ≡ true → length_at p ≤ most_length → 8 ≤ length p → (b : Bool) → ltb (length_at p) fields ≡ b
        → Means m fields p (cond b unreadable (cond (ltb (length p) (length_at p)) incomplete (whole (length_at p))))
    go4 a l h true e = let q = ltb-true (length_at p) fields e in λ w. let z = w.enough h in omega arith
    go4 a l h false e = go5 a l h (ltb-false (length_at p) fields e) (ltb (length p) (length_at p)) refl

    go3 : agrees m p ≡ true → length_at p ≤ most_length → (b : Bool) → ltb (length p) 8 ≡ b
        → Means m fields p (cond b incomplete (cond (ltb (length_at p) fields) unreadable (cond (ltb (length p) (length_at p)) incomplete (whole (length_at p)))))
    go3 a l true e =
        let q = ltb-true (length p) 8 e in
        (record { magic = a; most = l; enough = λ h. absurd (omega arith) }, λ w. omega (arith, w.head))
    go3 a l false e = go4 a l (ltb-false (length p) 8 e) (ltb (length_at p) fields) refl

    go2 : agrees m p ≡ true → (b : Bool) → ltb most_length (length_at p) ≡ b
        → Means m fields p
        (cond b unreadable
        (cond (ltb (length p) 8) incomplete (cond (ltb (length_at p) fields) unreadable (cond (ltb (length p) (length_at p)) incomplete (whole (length_at p))))))
    go2 a true e = let q = ltb-true most_length (length_at p) e in λ w. omega (arith, w.most)
    go2 a false e = go3 a (ltb-false most_length (length_at p) e) (ltb (length p) 8) refl

    go1 : (b : Bool) → agrees m p ≡ b
        → Means m fields p
        (cond (not b) unreadable
        (cond (ltb most_length (length_at p)) unreadable
        (cond (ltb (length p) 8) incomplete (cond (ltb (length_at p) fields) unreadable (cond (ltb (length p) (length_at p)) incomplete (whole (length_at p)))))))
    go1 true e = go2 e (ltb most_length (length_at p)) refl
    go1 false e = λ w. differ (sym w.magic ∙ e)

module _ (m : List ℕ) (fields : ℕ) (p : List ℕ) where
  pub stands_unreadable : standing m fields p ≡ unreadable → Hopeful m fields p → ⊥
  stands_unreadable e = rw e at (standing_means m fields p)

  pub stands_incomplete : standing m fields p ≡ incomplete → Hopeful m fields p × (Whole m fields p → ⊥)
  stands_incomplete e = rw e at (standing_means m fields p)

  pub stands_whole : (n : ℕ) → standing m fields p ≡ whole n → Whole m fields p × (n ≡ length_at p)
  stands_whole n e = rw e at (standing_means m fields p)

  -- and back
  pub whole_stands : Whole m fields p → standing m fields p ≡ whole (length_at p)
  whole_stands w = go (standing m fields p) (standing_means m fields p)
    where
      go : (s : Standing) → Means m fields p s → s ≡ whole (length_at p)
      go unreadable h = absurd (h w.hopeful)
      go incomplete h = absurd (h.1 w)
      go (whole n) h = ap whole h.1
