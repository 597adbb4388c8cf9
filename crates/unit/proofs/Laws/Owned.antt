-- Rows by their owners, 0 for nobody's and d + 1 for door d's: every row that a door owns is one that it lists, and a row that is nobody's is zeros; what is left so when one row changes hands. Assumes nothing.
use Rattle.std.specs.Prelude.{◌≡◌, refl, ◌≢◌, List, [], ◌∷◌, ◌++◌, ℕ, zero, suc, ◌≤◌, ◌<◌, length, get_or, set, replicate}
use Rattle.std.proofs.Common.{sym, ap, ◌∙◌, subst, inl, inr, ⊎_elim, arith, get_or-set_same, get_or-set_other}
use Rattle.std.proofs.Math.Decide.{ℕ_discrete}
use Rattle.eno.specs.declared.SessionRecord.{SessionRecord}
use Rattle.door.specs.Door.{no_session}
use Rattle.door.specs.Calls.{cut}
use Rattle.unit.specs.Numbers.{doors_n}
use Rattle.unit.specs.Laws.Lists.{In}
use Rattle.unit.specs.Laws.Pool.{Own}
use Rattle.unit.specs.Laws.Owned.{Listed}

-- a listed row is the door's own
pub in_own : (owners : List ℕ) (d i : ℕ) (is : List ℕ) → Own owners d is → In i is → get_or owners i 0 ≡ suc d
in_own owners d i [] o n = absurd n
in_own owners d i (k ∷ is) o n = ⊎_elim (λ e. ap (λ (z : ℕ). get_or owners z 0) e ∙ o.1) (λ m. in_own owners d i is o.3 m) n

pub in_snoc : (i k : ℕ) (is : List ℕ) → In i is → In i (is ++ k ∷ [])
in_snoc i k [] n = absurd n
in_snoc i k (x ∷ is) n = ⊎_elim (λ e. inl e) (λ m. inr (in_snoc i k is m)) n

pub in_last : (k : ℕ) (is : List ℕ) → In k (is ++ k ∷ [])
in_last k [] = inl refl
in_last k (x ∷ is) = inr (in_last k is)

pub in_cut : (i j : ℕ) (is : List ℕ) → In i is → i ≢ get_or is j 0 → In i (cut j is)
unfolding cut
in_cut i j [] n m = n
in_cut i zero (x ∷ is) n m = ⊎_elim (λ e. absurd (m e)) (λ l. l) n
in_cut i (suc j) (x ∷ is) n m = ⊎_elim (λ e. inl e) (λ l. inr (in_cut i j is l m)) n

-- one row changes hands
pub listed_set : (owners : List ℕ) (k n x : ℕ) (is js : List ℕ) → n < length owners → Listed owners k is → (x ≡ suc k → In n js) → ((i : ℕ) → i ≢ n → In i is → In i js) → Listed (set owners n x) k js
listed_set owners k n x is js h l own rest i e = go (ℕ_discrete i n)
  where
    go : Dec (i ≡ n) → In i js
    go (yes p) = subst (λ (z : ℕ). In z js) (sym p) (own (sym (get_or-set_same owners n x 0 h) ∙ (ap (λ (z : ℕ). get_or (set owners n x) z 0) (sym p) ∙ e)))
    go (no m) = rest i m (l i (sym (get_or-set_other owners n i x 0 m) ∙ e))

pub ours_set : (owners : List ℕ) (n x : ℕ) → n < length owners → x ≤ doors_n → ((i : ℕ) → get_or owners i 0 ≤ doors_n) → (i : ℕ) → get_or (set owners n x) i 0 ≤ doors_n
ours_set owners n x h l o i = go (ℕ_discrete i n)
  where
    go : Dec (i ≡ n) → get_or (set owners n x) i 0 ≤ doors_n
    go (yes p) = subst (λ (z : ℕ). get_or (set owners n x) z 0 ≤ doors_n) (sym p) (omega (arith, get_or-set_same owners n x 0 h))
    go (no m) = omega (arith, get_or-set_other owners n i x 0 m, o i)

pub none_stored : (n i : ℕ) → get_or (replicate n no_session) i no_session ≡ no_session
none_stored zero i = refl
none_stored (suc n) zero = refl
none_stored (suc n) (suc i) = none_stored n i

pub zeros_set : (owners : List ℕ) (rows : List SessionRecord) (n x : ℕ) (r : SessionRecord) → n < length owners → n < length rows → (x ≡ 0 → r ≡ no_session)
    → ((i : ℕ) → get_or owners i 0 ≡ 0 → get_or rows i no_session ≡ no_session) → (i : ℕ) → get_or (set owners n x) i 0 ≡ 0 → get_or (set rows n r) i no_session ≡ no_session
zeros_set owners rows n x r h k f z i e = go (ℕ_discrete i n)
  where
    go : Dec (i ≡ n) → get_or (set rows n r) i no_session ≡ no_session
    go (yes p) =
        let o : x ≡ 0 = sym (get_or-set_same owners n x 0 h) ∙ (ap (λ (j : ℕ). get_or (set owners n x) j 0) (sym p) ∙ e) in
        ap (λ (j : ℕ). get_or (set rows n r) j no_session) p ∙ (get_or-set_same rows n r no_session k ∙ f o)
    go (no m) = get_or-set_other rows n i r no_session m ∙ z i (sym (get_or-set_other owners n i x 0 m) ∙ e)

pub none_owned : (n i : ℕ) → get_or {A = ℕ} (replicate n 0) i 0 ≡ 0
none_owned zero i = refl
none_owned (suc n) zero = refl
none_owned (suc n) (suc i) = none_owned n i
