-- The TEPs of an option: each stands behind its byte, and their data starts grow along the option.
use Rattle.std.specs.Prelude.{ℕ, zero, suc, ◌+◌, ◌-◌, ◌≤◌, ◌<◌, ◌≡◌, refl, List, [], ◌∷◌, ◌⊎◌, length, get_or}
use Rattle.std.proofs.Common.{sym, ◌∙◌, ap, subst, ⊎_elim, arith}
use Rattle.eno.specs.Walk.{Piece, end, fault, item, Reading, readable, faulty, before, listed, items, items_of}
use Rattle.eno.specs.Suboption.{Sent, Suboption, global, tep, suboption_at, suboptions, teps}
use Rattle.eno.specs.Judge.{teps_of}
use Rattle.eno.specs.Laws.Walk.{Every}
use Rattle.eno.proofs.Laws.Walk.{every_item}
use Rattle.eno.specs.Laws.Suboption.{SuboptionCase, a_global, a_bare, to_end, a_counted}
use Rattle.eno.proofs.Laws.Suboption.{suboption_case}
use Rattle.eno.specs.Laws.Teps.{In, Ordered, Stood}

pub in_every : (P : Sent → Type 0) (l : List Sent) → Every P l → (x : Sent) → In x l → P x
in_every P [] h x i = absurd i
in_every P (y ∷ l) h x i = ⊎_elim (λ e. subst P (sym e) h.0) (λ j. in_every P l h.1 x j) i

pub ordered_from : (i j : ℕ) (l : List Sent) → i ≤ j → Ordered j l → Ordered i l
ordered_from i j [] h o = tt
ordered_from i j (x ∷ l) h o = (omega arith, o.1)

pub ordered_in : (i : ℕ) (l : List Sent) → Ordered i l → (x : Sent) → In x l → i < x.start
ordered_in i [] o x h = absurd h
ordered_in i (y ∷ l) o x h =
    ⊎_elim (λ (e : x ≡ y). let s : x.start ≡ y.start = ap (λ (z : Sent). z.start) e in omega arith) (λ j. let r = ordered_in y.start l o.1 x j in omega arith) h

abbrev TepStood : List ℕ → Suboption → Type 0
TepStood o (global b) = Unit {0}
TepStood o (tep x) = Stood o x

stood : (o : List ℕ) (i : ℕ) (x : Suboption) (j : ℕ) → suboption_at o i ≡ item x j → TepStood o x
stood o i x j e = go (suboption_case o i x j e)
  where
    back : (k m : ℕ) → k ≡ m → get_or o k 0 ≡ get_or o m 0
    back k m q = ap (λ n. get_or o n 0) q

    go : SuboptionCase o i x j → TepStood o x
    go (a_global h g ex ej) = rw ex tt
    go (a_bare h g t ex ej) = rw ex (record { positive = λ z. omega arith; byte_there = back (i + 1 - 1) i (omega arith) })
    go (to_end h r ex ej) = rw ex (record { positive = λ z. omega arith; byte_there = back (i + 1 - 1) i (omega arith) })
    go (a_counted n low high y en fits ex ej) = rw ex (record { positive = λ z. omega arith; byte_there = back (i + 2 - 1) (i + 1) (omega arith) })

teps_of_stood : (o : List ℕ) (l : List Suboption) → Every (TepStood o) l → Every (Stood o) (teps l)
unfolding teps
teps_of_stood o [] h = tt
teps_of_stood o (global b ∷ l) h = teps_of_stood o l h.1
teps_of_stood o (tep x ∷ l) h = (h.0, teps_of_stood o l h.1)

pub teps_stand : (o : List ℕ) → Every (Stood o) (teps_of o)
unfolding teps_of suboptions items_of
teps_stand o = teps_of_stood o (listed (suboptions o)) (every_item (TepStood o) (suboption_at o) (stood o) (suc (length o - 2)) 2)

-- where a suboption ends, and where its data starts
Starts : ℕ → Suboption → ℕ → Type 0
Starts i (global b) j = i ≤ j
Starts i (tep x) j = (i < x.start) × (x.start ≤ j)

starts : (o : List ℕ) (i : ℕ) (x : Suboption) (j : ℕ) → suboption_at o i ≡ item x j → Starts i x j
unfolding Starts
starts o i x j e = go (suboption_case o i x j e)
  where
    go : SuboptionCase o i x j → Starts i x j
    go (a_global h g ex ej) = rw ex (omega arith)
    go (a_bare h g t ex ej) = rw ex (omega arith, omega arith)
    go (to_end h r ex ej) = rw ex (omega arith, omega arith)
    go (a_counted n low high y en fits ex ej) = rw ex (omega arith, omega arith)

ordered_items : (o : List ℕ) (most i : ℕ) → Ordered i (teps (listed (items (suboption_at o) most i)))
unfolding items teps Starts
ordered_items o zero i = tt
ordered_items o (suc most) i = go (λ j. ordered_items o most j) (suboption_at o i) refl
  where
    one : (x : Suboption) (j : ℕ) (r : Reading (Unit {0}) Suboption) → Starts i x j → Ordered j (teps (listed r)) → Ordered i (teps (listed (before x r)))
    one (global b) j (readable l) s h = ordered_from i j (teps l) s h
    one (global b) j (faulty f) s h = tt
    one (tep x) j (readable l) s h = (s.0, ordered_from x.start j (teps l) s.1 h)
    one (tep x) j (faulty f) s h = tt

    go : ((j : ℕ) → Ordered j (teps (listed (items (suboption_at o) most j)))) → (x : Piece (Unit {0}) Suboption) → suboption_at o i ≡ x
        → Ordered i (teps (listed (items (suboption_at o) (suc most) i)))
    go rest end e = rw (e, items) tt
    go rest (fault f) e = rw (e, items) tt
    go rest (item x j) e = rw (e, items) (one x j (items (suboption_at o) most j) (starts o i x j e) (rest j))

pub teps_ordered : (o : List ℕ) → Ordered 2 (teps_of o)
unfolding teps_of suboptions items_of
teps_ordered o = ordered_items o (suc (length o - 2)) 2
