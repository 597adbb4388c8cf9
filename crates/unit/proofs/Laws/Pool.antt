-- The pool: each row that a door lists is its own, so that no effect of one door touches a row of another; and counting, for a free row.
use Rattle.std.specs.Prelude.{◌≡◌, refl, ◌≢◌, List, [], ◌∷◌, ◌++◌, ℕ, zero, suc, ◌+◌, ◌*◌, ◌≤◌, ◌<◌, length, get_or, set}
use Rattle.std.proofs.Common.{sym, ap, ap₂, ◌∙◌, arith, length-set, get_or-set_other}
use Rattle.eno.specs.declared.SessionRecord.{SessionRecord}
use Rattle.door.specs.Door.{no_session}
use Rattle.door.specs.Calls.{cut}
use Rattle.unit.specs.Unit.{records_at, or_next, first_free, count_of, past_position}
use Rattle.unit.specs.Laws.Lists.{NotIn}
use Rattle.unit.proofs.Laws.Lists.{not_in_cut, not_in_snoc, map_cut, map_snoc}
use Rattle.unit.specs.declared.Position.{Position}
use Rattle.unit.specs.Laws.Pool.{Own, bit, in_use, in_hold}

-- a row that another owns, or nobody, is not in the list
pub own_not_in : (owners : List ℕ) (d k : ℕ) (is : List ℕ) → Own owners d is → get_or owners k 0 ≢ suc d → NotIn k is
own_not_in owners d k [] o n = tt
own_not_in owners d k (i ∷ is) o n = ((λ (e : k ≡ i). n (ap (λ (z : ℕ). get_or owners z 0) e ∙ o.1)), own_not_in owners d k is o.3 n)

pub own_set : (owners : List ℕ) (d k x : ℕ) (is : List ℕ) → NotIn k is → Own owners d is → Own (set owners k x) d is
own_set owners d k x [] n o = tt
own_set owners d k x (i ∷ is) n o =
    (rw length-set o.0, get_or-set_other owners k i x 0 (λ e. n.0 (sym e)) ∙ o.1, o.2, own_set owners d k x is n.1 o.3)

pub records_set : (rows : List SessionRecord) (k : ℕ) (x : SessionRecord) (is : List ℕ) → NotIn k is → records_at (set rows k x) is ≡ records_at rows is
unfolding records_at
records_set rows k x [] n = refl
records_set rows k x (i ∷ is) n =
    ap₂ (λ (a : SessionRecord) (b : List SessionRecord). a ∷ b) (get_or-set_other rows k i x no_session (λ e. n.0 (sym e))) (records_set rows k x is n.1)

pub records_snoc : (rows : List SessionRecord) (k : ℕ) (is : List ℕ) → records_at rows (is ++ k ∷ []) ≡ records_at rows is ++ get_or rows k no_session ∷ []
unfolding records_at
records_snoc rows k is = map_snoc (λ (i : ℕ). get_or rows i no_session) is k

pub records_cut : (rows : List SessionRecord) (j : ℕ) (is : List ℕ) → records_at rows (cut j is) ≡ cut j (records_at rows is)
unfolding records_at
records_cut rows j is = map_cut (λ (i : ℕ). get_or rows i no_session) j is

-- one row more
pub own_snoc : (owners : List ℕ) (d k : ℕ) (is : List ℕ) → k < length owners → get_or owners k 0 ≡ suc d → NotIn k is → Own owners d is → Own owners d (is ++ k ∷ [])
own_snoc owners d k [] l e n o = (l, e, tt, tt)
own_snoc owners d k (i ∷ is) l e n o = (o.0, o.1, not_in_snoc i k is o.2 (λ p. n.0 (sym p)), own_snoc owners d k is l e n.1 o.3)

-- one row less
pub own_cut : (owners : List ℕ) (d j : ℕ) (is : List ℕ) → Own owners d is → Own owners d (cut j is)
unfolding cut
own_cut owners d j [] o = tt
own_cut owners d zero (i ∷ is) o = o.3
own_cut owners d (suc j) (i ∷ is) o = (o.0, o.1, not_in_cut i j is o.2, own_cut owners d j is o.3)

not_in_at : (i j : ℕ) (is : List ℕ) → j < length is → NotIn i is → get_or is j 0 ≢ i
not_in_at i j [] h n = absurd (omega arith)
not_in_at i zero (x ∷ is) h n = λ e. n.0 (sym e)
not_in_at i (suc j) (x ∷ is) h n = not_in_at i j is (omega arith) n.1

pub own_cut_not_in : (owners : List ℕ) (d j : ℕ) (is : List ℕ) → j < length is → Own owners d is → NotIn (get_or is j 0) (cut j is)
unfolding cut
own_cut_not_in owners d j [] h o = tt
own_cut_not_in owners d zero (i ∷ is) h o = o.2
own_cut_not_in owners d (suc j) (i ∷ is) h o = (not_in_at i j is (omega arith) o.2, own_cut_not_in owners d j is (omega arith) o.3)

pub own_at : (owners : List ℕ) (d j : ℕ) (is : List ℕ) → j < length is → Own owners d is → (get_or is j 0 < length owners) × (get_or owners (get_or is j 0) 0 ≡ suc d)
own_at owners d j [] h o = absurd (omega arith)
own_at owners d zero (i ∷ is) h o = (o.0, o.1)
own_at owners d (suc j) (i ∷ is) h o = own_at owners d j is (omega arith) o.3

pub in_use_set : (owners : List ℕ) (k x : ℕ) → k < length owners → in_use (set owners k x) + bit (get_or owners k 0) ≡ in_use owners + bit x
unfolding in_use
in_use_set [] k x h = absurd (omega arith)
in_use_set (o ∷ owners) zero x h = omega arith
in_use_set (o ∷ owners) (suc k) x h = omega (arith, in_use_set owners k x (omega arith))

pub in_hold_set : (doors : List Position) (d : ℕ) (x : Position) → d < length doors → in_hold (set doors d x) + count_of (get_or doors d past_position) ≡ in_hold doors + count_of x
unfolding in_hold
in_hold_set [] k x h = absurd (omega arith)
in_hold_set (y ∷ doors) zero x h = omega arith
in_hold_set (y ∷ doors) (suc k) x h = omega (arith, in_hold_set doors k x (omega arith))

hold_le : (n : ℕ) (doors : List Position) → ((i : ℕ) → i < length doors → count_of (get_or doors i past_position) ≤ n) → in_hold doors ≤ n * length doors
unfolding in_hold
hold_le n [] h = omega arith
hold_le n (x ∷ doors) h = omega (arith, hold_le n doors (λ i l. h (suc i) (omega arith)), h 0 (omega arith))

pub hold_lt : (n : ℕ) (doors : List Position) (d : ℕ) → ((i : ℕ) → i < length doors → count_of (get_or doors i past_position) ≤ n) → d < length doors
    → count_of (get_or doors d past_position) < n → in_hold doors < n * length doors
unfolding in_hold
hold_lt n [] d h l s = absurd (omega arith)
hold_lt n (x ∷ doors) zero h l s = omega (arith, hold_le n doors (λ i l. h (suc i) (omega arith)), s)
hold_lt n (x ∷ doors) (suc d) h l s = omega (arith, hold_lt n doors d (λ i l. h (suc i) (omega arith)) (omega arith) s, h 0 (omega arith))

next_lt : (o n m u : ℕ) → (u < m → n < m) → bit o + u < suc m → or_next o n < suc m
unfolding or_next bit
next_lt zero n m u f h = omega arith
next_lt (suc o) n m u f h = omega (arith, f (omega arith))

-- fewer in use than there are: one is free
pub free_lt : (owners : List ℕ) → in_use owners < length owners → first_free owners < length owners
unfolding in_use first_free
free_lt [] h = h
free_lt (o ∷ owners) h = next_lt o (first_free owners) (length owners) (in_use owners) (free_lt owners) h

-- the lowest free row is free, or past the last
next_free : (o : ℕ) (owners : List ℕ) (n p : ℕ) → o ≡ p → get_or owners n 0 ≡ 0 → get_or (o ∷ owners) (or_next p n) 0 ≡ 0
unfolding or_next
next_free o owners n zero e f = e
next_free o owners n (suc p) e f = f

pub lowest_is_free : (owners : List ℕ) → get_or owners (first_free owners) 0 ≡ 0
unfolding first_free
lowest_is_free [] = refl
lowest_is_free (o ∷ owners) = next_free o owners (first_free owners) o refl (lowest_is_free owners)
