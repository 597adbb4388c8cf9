-- A door's records, gathered one by one from the rows into an array of zeros.
use Rattle.std.specs.Prelude.{◌≡◌, refl, length, set}
use Rattle.std.proofs.Common.{sym, ◌∙◌, add-one}
use Rattle.std.proofs.Math.Path.{ap}
use mathlib.Core.List.{List, [], ◌∷◌, ◌++◌, map}
use Prim.Native.Nat.{ℕ, zero, suc, ◌+◌, ◌-◌, ◌≤◌, ◌<◌}
use native.Mathlib.Omega.{arith}
use Rattle.std.proofs.Math.ListN.{get_or, take, replicate, length-map, get_or-eq_default}
use Rattle.std.proofs.Math.Seq.{take-suc, length-take-le, take_at}
use Rattle.eno.specs.declared.SessionRecord.{SessionRecord}
use Rattle.door.specs.Numbers.{each_n}
use Rattle.door.specs.Door.{Seen, no_session, seen_of}
use Rattle.door.specs.declared.Door.{Door}
use Rattle.door.specs.declared.View.{View}
use Rattle.unit.specs.Unit.{count_of, records_at}
use Rattle.unit.proofs.Laws.Lists.{map_snoc}
use Rattle.unit.specs.declared.Position.{Position}
use Rattle.unit_bytes.specs.Content.{rows_in}
use Rattle.pool.specs.Placed.{seen_in, gathered, view_in}

set_behind : {X : Type 0} (l : List X) (x s : X) (m : List X) (i : ℕ) → i ≡ length l → set (l ++ x ∷ m) i s ≡ l ++ s ∷ m
set_behind [] x s m zero e = refl
set_behind [] x s m (suc i) e = absurd (omega arith)
set_behind (y ∷ l) x s m zero e = absurd (omega arith)
set_behind (y ∷ l) x s m (suc i) e = ap (λ (r : List _). y ∷ r) (set_behind l x s m i (omega arith))

append_one : {X : Type 0} (l : List X) (x : X) (m : List X) → (l ++ x ∷ []) ++ m ≡ l ++ x ∷ m
append_one [] x m = refl
append_one (y ∷ l) x m = ap (λ (r : List _). y ∷ r) (append_one l x m)

-- any element does for the default within a list
pub get_d_any : {X : Type 0} (l : List X) (i : ℕ) (d e : X) → i < length l → get_or l i d ≡ get_or l i e
get_d_any [] i d e h = absurd (omega arith)
get_d_any (x ∷ l) zero d e h = refl
get_d_any (x ∷ l) (suc i) d e h = get_d_any l i d e (omega arith)

pub gathered_none : (rows : List SessionRecord) (numbers : List ℕ) → replicate each_n no_session ≡ gathered rows numbers 0
unfolding gathered records_at each_n
gathered_none rows numbers = refl

module _ (rows : List SessionRecord) (numbers : List ℕ) (i : ℕ) (size : length numbers ≡ each_n) where
  gathered_length : i ≤ each_n → length (records_at rows (take i numbers)) ≡ i
  unfolding records_at
  gathered_length h = length-map (take i numbers) _ ∙ length-take-le i numbers (omega arith)

  module _ (within : i < each_n) where
    split : gathered rows numbers i ≡ records_at rows (take i numbers) ++ no_session ∷ replicate (each_n - (i + 1)) no_session
    unfolding gathered
    split = let e : each_n - i ≡ suc (each_n - (i + 1)) = omega arith in ap (λ (m : ℕ). records_at rows (take i numbers) ++ replicate m no_session) e

    next : gathered rows numbers (i + 1) ≡ records_at rows (take i numbers) ++ get_or rows (get_or numbers i 0) no_session ∷ replicate (each_n - (i + 1)) no_session
    unfolding gathered records_at
    next =
        ap (λ (l : List ℕ). map (λ (k : ℕ). get_or rows k no_session) l ++ replicate (each_n - (i + 1)) no_session) (ap (λ (k : ℕ). take k numbers) (add-one i) ∙ take-suc numbers i 0 (omega arith))
        ∙ (ap (λ (l : List SessionRecord). l ++ replicate (each_n - (i + 1)) no_session) (map_snoc (λ (k : ℕ). get_or rows k no_session) (take i numbers) (get_or numbers i 0))
        ∙ append_one (map (λ (k : ℕ). get_or rows k no_session) (take i numbers)) (get_or rows (get_or numbers i 0) no_session) (replicate (each_n - (i + 1)) no_session))

    -- one more
    pub gathered_more : (held : List SessionRecord) (s : SessionRecord) → held ≡ gathered rows numbers i → s ≡ get_or rows (get_or numbers i 0) no_session → set held i s ≡ gathered rows numbers (i + 1)
    gathered_more held s e f =
        ap (λ (l : List SessionRecord). set l i s) (e ∙ split)
        ∙ (set_behind (records_at rows (take i numbers)) no_session s _ i (sym (gathered_length (omega arith)))
        ∙ (ap (λ (x : SessionRecord). records_at rows (take i numbers) ++ x ∷ replicate (each_n - (i + 1)) no_session) f ∙ sym next))

    -- a row number past the last
    pub gathered_past : (held : List SessionRecord) → held ≡ gathered rows numbers i → length rows ≤ get_or numbers i 0 → held ≡ gathered rows numbers (i + 1)
    gathered_past held e f =
        e
        ∙ (split
        ∙ (ap (λ (x : SessionRecord). records_at rows (take i numbers) ++ x ∷ replicate (each_n - (i + 1)) no_session) (sym (get_or-eq_default rows no_session {n = get_or numbers i 0} f)) ∙ sym next))

  pub gathered_all : (held : List SessionRecord) → i ≤ each_n → held ≡ gathered rows numbers i → take i held ≡ records_at rows (take i numbers)
  unfolding gathered
  gathered_all held h e =
      ap (λ (l : List SessionRecord). take i l) e ∙ take_at (records_at rows (take i numbers)) (replicate (each_n - i) no_session) i (gathered_length h)

-- what a door with this position sees
seen_as : Door → List SessionRecord → Seen
seen_as l held = record { door = l; held = held }

-- all are gathered
module _ (rows : List (List ℕ)) (x : Position) (size : length x.rows ≡ each_n) where
  pub seen_gathered : seen_of (view_in rows x) ≡ seen_in rows x
  unfolding seen_of seen_as
  seen_gathered =
      let most : count_of x ≤ each_n = omega arith in
      ap (seen_as x.door) (gathered_all (rows_in rows) x.rows (count_of x) size (gathered (rows_in rows) x.rows (count_of x)) most refl)

  pub view_gathered : (v : View) → v ≡ view_in rows x → (v ≡ view_in rows x) × (seen_of v ≡ seen_in rows x)
  view_gathered v e = (e, ap seen_of e ∙ seen_gathered)
