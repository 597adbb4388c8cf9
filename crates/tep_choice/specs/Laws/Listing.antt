-- Laws of TEP lists: their TEPs are known, and which is the last that passes a test.
use Rattle.std.specs.Prelude.{ℕ, suc, ◌≤◌, ◌≡◌, refl, List, [], ◌∷◌, ◌++◌, Bool, true, false, cond, ◌&&◌, leb, length, get_or, take}
use Rattle.std.proofs.Common.{◌∙◌, ap, ap₂, arith, take-suc}
use Rattle.std.proofs.Math.Option.{Option, none, some}
use Rattle.eno.specs.Option.{is_tep_list, known_once}
use Rattle.eno.specs.Laws.Walk.{Every}
use Rattle.eno.specs.Laws.Asked.{IsTep}
use Rattle.eno.proofs.Laws.Asked.{and_true, all_teps}
use Rattle.door.specs.Answer.{last_that}

-- a TEP list has known TEPs
pub tep_list : (list : List ℕ) → is_tep_list list ≡ true → Every IsTep list
unfolding is_tep_list
tep_list list e = all_teps list (and_true (leb 1 (length list) && leb (length list) 4) (known_once list) e).1

-- the last of a list with one more
last_snoc : (test : ℕ → Bool) (l : List ℕ) (x : ℕ) → last_that test (l ++ (x ∷ [])) ≡ cond (test x) (some x) (last_that test l)
unfolding last_that
last_snoc test [] x = refl
last_snoc test (y ∷ l) x = rw (last_snoc test l x) (go (test x))
  where
    go : (b : Bool) → ◌≡◌ {A = Option ℕ} (elim (cond b (some x) (last_that test l)) [ some u ↦ some u | none ↦ cond (test y) (some y) none ])
        (cond b (some x) (elim (last_that test l) [ some u ↦ some u | none ↦ cond (test y) (some y) none ]))
    go true = refl
    go false = refl

-- a search from the end, of which the first i elements are left
module _ (test : ℕ → Bool) (l : List ℕ) (i : ℕ) (passed : last_that test l ≡ last_that test (take i l)) where
  pub last_none : i ≡ 0 → last_that test l ≡ none
  unfolding last_that
  last_none e = passed ∙ (rw e)

  module _ (j : ℕ) (next : i ≡ suc j) (within : i ≤ length l) where
    cut_last : take i l ≡ take j l ++ (get_or l j 0 ∷ [])
    cut_last = rw next (take-suc l j 0 (omega arith))

    pub last_here : test (get_or l j 0) ≡ true → last_that test l ≡ some (get_or l j 0)
    last_here e = passed ∙ (ap (last_that test) cut_last ∙ (last_snoc test (take j l) (get_or l j 0) ∙ (rw e)))

    pub last_later : test (get_or l j 0) ≡ false → last_that test l ≡ last_that test (take j l)
    last_later e = passed ∙ (ap (last_that test) cut_last ∙ (last_snoc test (take j l) (get_or l j 0) ∙ (rw e)))

-- tests that agree on a list
pub last_same : (P : ℕ → Type 0) (f g : ℕ → Bool) → ((t : ℕ) → P t → f t ≡ g t) → (l : List ℕ) → Every P l → last_that f l ≡ last_that g l
unfolding last_that
last_same P f g h [] p = refl
last_same P f g h (t ∷ l) p =
    ap₂ (λ (m : Option ℕ) (b : Bool). elim m [ some u ↦ some u | none ↦ cond b (some t) none ]) (last_same P f g h l p.1) (h t p.0)

-- the last that passes a test is one of the list, and passes it
pub last_is : (P : ℕ → Type 0) (test : ℕ → Bool) (l : List ℕ) → Every P l → (t : ℕ) → last_that test l ≡ some t → P t × (test t ≡ true)
unfolding last_that
last_is P test [] p t e = let z : ◌≡◌ {A = ℕ} 0 1 = cc in absurd (omega arith)
last_is P test (x ∷ l) p t e = go (λ q. last_is P test l p.1 t q) (last_that test l) refl e
  where
    here : (b : Bool) → test x ≡ b → cond b (some x) none ≡ some t → P t × (test t ≡ true)
    here true q e = let s : x ≡ t = cc in rw (← s) (p.0, q)
    here false q e = let z : ◌≡◌ {A = ℕ} 0 1 = cc in absurd (omega arith)

    go : (last_that test l ≡ some t → P t × (test t ≡ true)) → (m : Option ℕ) → last_that test l ≡ m → ◌≡◌ {A = Option ℕ} (elim m [ some u ↦ some u | none ↦ cond (test x) (some x) none ]) (some t) → P t × (test t ≡ true)
    go later (some u) q e = later (q ∙ e)
    go later none q e = here (test x) refl e
