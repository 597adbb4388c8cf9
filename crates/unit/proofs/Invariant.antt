-- The invariant of the unit: whose each row is, which the marks agree with; what an effect of a door does to each door's records; and that a row is free while a door holds fewer than its number.
use Rattle.std.specs.Prelude.{◌≡◌, ◌≢◌, length, get_or, take, replicate}
use Rattle.std.proofs.Math.Path.{refl, sym, ap, ap₂, subst}
use Rattle.std.proofs.Common.{◌∙◌, mul_comm, length-append, lit≤, length-take-le}
use mathlib.Core.List.{List, [], ◌∷◌, ◌++◌, map}
use Prim.Native.Nat.{ℕ, zero, suc, ◌+◌, ◌-◌, ◌*◌, ◌≤◌, ◌<◌, min}
use Rattle.std.proofs.Math.Nat.{suc_inj}
use Rattle.std.proofs.Math.Decide.{ℕ_discrete}
use native.Mathlib.Omega.{arith}
use Rattle.std.proofs.Math.ListN.{set, length-set}
use Rattle.std.proofs.lemmas.List.{length-map, length-replicate, get_or-replicate}
use Rattle.std.proofs.Math.Seq.{get_or-set_same, get_or-set_other, take-suc-set}
use Rattle.eno.specs.declared.SessionRecord.{SessionRecord}
use Rattle.door.specs.Numbers.{each_n}
use Rattle.door.specs.Door.{Seen, no_session}
use Rattle.door.specs.Outcome.{Effect, keep, add, remove}
use Rattle.door.specs.Calls.{cut, effected}
use Rattle.door.specs.declared.Door.{Door}
use Rattle.unit.specs.Numbers.{doors_n, rows_n, word_n, words_n}
use Rattle.unit.proofs.Numbers.{enough, whole}
use Rattle.unit.specs.Marks.{bits_of, marks_in}
use Rattle.unit.specs.Unit.{idle_position, empty_unit, past_position, position_at, count_of, mine, records_at, view, first_free, lowest_free, marks_after, rows_after, position_after, enact}
use Rattle.unit.specs.Laws.Lists.{NotIn}
use Rattle.unit.proofs.Laws.Lists.{length_cut, take_cut}
use Rattle.unit.specs.Laws.Pool.{Own, bit, in_use, in_hold}
use Rattle.unit.proofs.Laws.Pool.{own_not_in, own_set, records_set, records_snoc, records_cut, own_snoc, own_cut, own_cut_not_in, own_at, in_use_set, in_hold_set, hold_lt, free_lt, lowest_is_free}
use Rattle.unit.proofs.Laws.Marks.{length_marks, length_with_mark, marks_set, mark_taken, mark_freed, first_free_bits}
use Rattle.unit.specs.Laws.Owned.{Listed}
use Rattle.unit.proofs.Laws.Owned.{in_snoc, in_last, in_cut, listed_set, ours_set, none_stored, zeros_set, none_owned}
use Rattle.unit.specs.declared.Position.{Position}
use Rattle.unit.specs.declared.LinkUnit.{LinkUnit}
use Rattle.unit.specs.Invariant.{Sound, Inv, owners_after, Fits}

-- the empty unit
in_use_none : (n : ℕ) → in_use (replicate n 0) ≡ 0
unfolding in_use bit
in_use_none zero = refl
in_use_none (suc n) = omega (arith, in_use_none n)

in_hold_none : (n : ℕ) → in_hold (replicate n idle_position) ≡ 0
unfolding in_hold idle_position
in_hold_none zero = refl
in_hold_none (suc n) = let z : min 0 each_n ≡ 0 = omega arith in omega (arith, in_hold_none n)

pub position_empty : (d : ℕ) → d < doors_n → position_at empty_unit d ≡ idle_position
unfolding empty_unit
position_empty d h = get_or-replicate doors_n d idle_position past_position h

none_mine : mine idle_position ≡ []
unfolding idle_position
none_mine = let z : min 0 each_n ≡ 0 = omega arith in ap (λ n. take n (replicate each_n 0)) z

idle_size : length idle_position.rows ≡ each_n
unfolding idle_position
idle_size = length-replicate each_n 0

idle_most : idle_position.count ≤ each_n
unfolding idle_position
idle_most = omega arith

no_marks : marks_in (replicate words_n 0) ≡ map bit (replicate rows_n 0)
unfolding marks_in bits_of bit rows_n word_n words_n
no_marks = refl

pub empty_inv : Inv empty_unit
unfolding empty_unit
empty_inv =
    record {
      owners = replicate rows_n 0;
      agree = no_marks;
      words_size = length-replicate words_n 0;
      rows_size = length-replicate rows_n no_session;
      doors_size = length-replicate doors_n idle_position;
      door = λ d h. subst (λ (x : Position). Sound (replicate rows_n 0) d x) (sym (position_empty d h)) (idle_sound d);
      used = in_use_none rows_n ∙ sym (in_hold_none doors_n);
      ours = λ i. omega (arith, none_owned rows_n i);
      zeros = λ i e. none_stored rows_n i;
      listed = λ d h i e. absurd (omega (arith, e, none_owned rows_n i));
    }
  where
    idle_sound : (d : ℕ) → Sound (replicate rows_n 0) d idle_position
    idle_sound d = record { size = idle_size; most = idle_most; own = subst (λ (l : List ℕ). Own (replicate rows_n 0) d l) (sym none_mine) tt }

-- an owner for each row, and the lowest free row is nobody's
pub owners_size : (u : LinkUnit) (s : Inv u) → length s.owners ≡ rows_n
owners_size u s =
    sym (length-map s.owners bit)
    ∙ (ap length (sym s.agree) ∙ (length_marks u.marks ∙ (ap (λ (n : ℕ). word_n * n) s.words_size ∙ (mul_comm word_n words_n ∙ whole))))

lowest_is : (u : LinkUnit) (s : Inv u) → lowest_free u ≡ first_free s.owners
lowest_is u s = ap first_free s.agree ∙ first_free_bits s.owners

nobody_has : (u : LinkUnit) (s : Inv u) → get_or s.owners (lowest_free u) 0 ≡ 0
nobody_has u s = ap (λ (n : ℕ). get_or s.owners n 0) (lowest_is u s) ∙ lowest_is_free s.owners

-- a row is free while a door holds fewer than its number
pub free_while_fewer : (u : LinkUnit) (d : ℕ) → Inv u → d < doors_n → count_of (position_at u d) < each_n → lowest_free u < rows_n
free_while_fewer u d s h f =
    let l : length u.doors ≡ doors_n = s.doors_size in
    let a : in_hold u.doors < each_n * length u.doors = hold_lt each_n u.doors d (λ i q. omega (arith, (s.door i (omega arith)).most)) (omega arith) f in
    let b : in_hold u.doors < each_n * doors_n = rw (← l) a in
    let n : length s.owners ≡ rows_n = owners_size u s in
    let c : first_free s.owners < length s.owners = free_lt s.owners (omega (arith, s.used, n, enough)) in
    omega (arith, c, n, lowest_is u s)

module _ (owners : List ℕ) (d : ℕ) (x : Position) (f : Sound owners d x) where
  count_is : count_of x ≡ x.count
  count_is = omega (arith, f.most)

  mine_size : length (mine x) ≡ count_of x
  mine_size = length-take-le (count_of x) x.rows (omega (arith, f.size, f.most))

  -- the door that stores
  module _ (rows : List SessionRecord) (r : SessionRecord) (few : count_of x < each_n) (free : ℕ) (within : free < length owners) (nobody : get_or owners free 0 ≡ 0) (same : length rows ≡ length owners) where
    fresh_row : NotIn free (mine x)
    fresh_row = own_not_in owners d free (mine x) f.own (λ q. omega (arith, nobody))

    unfoldable pub added : List ℕ
    added = set x.rows (count_of x) free

    add_slots : take (suc (count_of x)) added ≡ mine x ++ free ∷ []
    unfolding added
    add_slots = take-suc-set x.rows (count_of x) free (omega (arith, f.size))

    add_most : min (suc (count_of x)) each_n ≡ suc (count_of x)
    add_most = omega arith

    pub add_mine : take (min (suc (count_of x)) each_n) added ≡ mine x ++ free ∷ []
    add_mine = ap (λ n. take n added) add_most ∙ add_slots

    add_sound : (l : Door) → Sound (set owners free (suc d)) d (record { door = l; count = suc (count_of x); rows = set x.rows (count_of x) free })
    unfolding added
    add_sound l =
        record {
          size = rw length-set f.size;
          most = few;
          own =
              subst (λ (is : List ℕ). Own (set owners free (suc d)) d is) (sym add_mine)
              (own_snoc (set owners free (suc d)) d free (mine x) (rw length-set within) (get_or-set_same owners free (suc d) 0 within) fresh_row
              (own_set owners d free (suc d) (mine x) fresh_row f.own));
        }

    add_held : records_at (set rows free r) (take (min (suc (count_of x)) each_n) (set x.rows (count_of x) free)) ≡ records_at rows (mine x) ++ r ∷ []
    unfolding added
    add_held =
        ap (λ (is : List ℕ). records_at (set rows free r) is) add_mine
        ∙ (records_snoc (set rows free r) free (mine x)
        ∙ ap₂ (λ (hs : List SessionRecord) (z : SessionRecord). hs ++ z ∷ []) (records_set rows free r (mine x) fresh_row)
        (get_or-set_same rows free r no_session (omega arith)))

  -- the door that loses its j-th oldest
  module _ (rows : List SessionRecord) (j : ℕ) (lt : j < count_of x) where
    abbrev gone : ℕ
    gone = get_or (mine x) j 0

    pub cut_mine : take (min (count_of x - 1) each_n) (cut j x.rows ++ 0 ∷ []) ≡ cut j (mine x)
    cut_mine =
        let m : min (count_of x - 1) each_n ≡ count_of x - 1 = omega arith in
        let p : suc (count_of x - 1) ≡ count_of x = omega arith in
        ap (λ n. take n (cut j x.rows ++ 0 ∷ [])) m
        ∙ (take_cut j (count_of x - 1) x.rows 0 (omega arith) (omega (arith, f.size)) ∙ ap (λ n. cut j (take n x.rows)) p)

    cut_row : NotIn gone (cut j (mine x))
    cut_row = own_cut_not_in owners d j (mine x) (omega (arith, mine_size)) f.own

    pub cut_taken : (gone < length owners) × (get_or owners gone 0 ≡ suc d)
    cut_taken = own_at owners d j (mine x) (omega (arith, mine_size)) f.own

    cut_sound : (l : Door) → Sound (set owners gone 0) d (record { door = l; count = count_of x - 1; rows = cut j x.rows ++ 0 ∷ [] })
    cut_sound l =
        record {
          size = length-append (cut j x.rows) (0 ∷ []) ∙ omega (arith, length_cut j x.rows (omega (arith, f.size)), f.size);
          most = omega arith;
          own =
              subst (λ (is : List ℕ). Own (set owners gone 0) d is) (sym cut_mine)
              (own_set owners d gone 0 (cut j (mine x)) cut_row (own_cut owners d j (mine x) f.own));
        }

    cut_held : (z : SessionRecord) → records_at (set rows gone z) (take (min (count_of x - 1) each_n) (cut j x.rows ++ 0 ∷ [])) ≡ cut j (records_at rows (mine x))
    cut_held z =
        ap (λ (is : List ℕ). records_at (set rows gone z) is) cut_mine
        ∙ (records_set rows gone z (cut j (mine x)) cut_row ∙ records_cut rows j (mine x))

abbrev seen : Door → List SessionRecord → Seen
seen l hs = record { door = l; held = hs }

-- an effect of door d: what holds after it of the door itself, of another door, and of the unit
module _ (u : LinkUnit) (d : ℕ) (s : Inv u) (h : d < doors_n) where
  abbrev x : Position
  x = position_at u d

  same_sizes : length u.rows ≡ length s.owners
  same_sizes = s.rows_size ∙ sym (owners_size u s)

  within : lowest_free u < rows_n → lowest_free u < length s.owners
  within l = omega (arith, l, owners_size u s)

  not_theirs : (e : Effect) → Fits u d e → (k : ℕ) → k ≢ d → (is : List ℕ) → Own s.owners k is
      → Own (owners_after s.owners (lowest_free u) d x e) k is × (records_at (rows_after (lowest_free u) u.rows x e) is ≡ records_at u.rows is)
  unfolding owners_after rows_after
  not_theirs keep fits k n is o = (o, refl)
  not_theirs (add r) fits k n is o =
      let q : NotIn (lowest_free u) is = own_not_in s.owners k (lowest_free u) is o (λ z. omega (arith, nobody_has u s)) in
      (own_set s.owners k _ _ is q o, records_set u.rows _ _ is q)
  not_theirs (remove j) fits k n is o =
      let q : NotIn (get_or (mine x) j 0) is = own_not_in s.owners k _ is o (λ z. n (suc_inj (sym z ∙ (cut_taken s.owners d x (s.door d h) u.rows j fits).1))) in
      (own_set s.owners k _ _ is q o, records_set u.rows _ _ is q)

  its_sound : (e : Effect) (l : Door) → Fits u d e → Sound (owners_after s.owners (lowest_free u) d x e) d (position_after (lowest_free u) x l e)
  unfolding owners_after position_after
  its_sound keep l fits = record { size = (s.door d h).size; most = (s.door d h).most; own = (s.door d h).own }
  its_sound (add r) l fits = add_sound s.owners d x (s.door d h) u.rows r fits.0 (lowest_free u) (within fits.1) (nobody_has u s) same_sizes l
  its_sound (remove j) l fits = cut_sound s.owners d x (s.door d h) u.rows j fits l

  its_held : (e : Effect) (l : Door) → Fits u d e → records_at (rows_after (lowest_free u) u.rows x e) (mine (position_after (lowest_free u) x l e)) ≡ effected e (records_at u.rows (mine x))
  unfolding rows_after position_after effected
  its_held keep l fits = refl
  its_held (add r) l fits = add_held s.owners d x (s.door d h) u.rows r fits.0 (lowest_free u) (within fits.1) (nobody_has u s) same_sizes
  its_held (remove j) l fits = cut_held s.owners d x (s.door d h) u.rows j fits _

  its_count : (e : Effect) (l : Door) → Fits u d e → in_use (owners_after s.owners (lowest_free u) d x e) + count_of x ≡ in_use s.owners + count_of (position_after (lowest_free u) x l e)
  unfolding owners_after position_after bit
  its_count keep l fits = refl
  its_count (add r) l fits =
      let m : min (suc (count_of x)) each_n ≡ suc (count_of x) = omega (arith, fits.0) in
      omega (arith, m, in_use_set s.owners (lowest_free u) (suc d) (within fits.1), ap bit (nobody_has u s))
  its_count (remove j) l fits =
      let k = cut_taken s.owners d x (s.door d h) u.rows j fits in
      let lt : j < count_of x = fits in
      let m : min (count_of x - 1) each_n ≡ count_of x - 1 = omega arith in
      omega (arith, m, in_use_set s.owners (get_or (mine x) j 0) 0 k.0, ap bit k.1)

  its_agree : (e : Effect) → marks_in (marks_after (lowest_free u) u.marks x e) ≡ map bit (owners_after s.owners (lowest_free u) d x e)
  unfolding marks_after owners_after
  its_agree keep = s.agree
  its_agree (add r) = marks_set u.marks (lowest_free u) 1 (lit≤ tt) ∙ (ap (λ (ms : List ℕ). set ms (lowest_free u) 1) s.agree ∙ sym (mark_taken s.owners (lowest_free u) d))
  its_agree (remove j) =
      marks_set u.marks (get_or (mine x) j 0) 0 (lit≤ tt) ∙ (ap (λ (ms : List ℕ). set ms (get_or (mine x) j 0) 0) s.agree ∙ sym (mark_freed s.owners (get_or (mine x) j 0)))

  same_words_size : (e : Effect) → length (marks_after (lowest_free u) u.marks x e) ≡ length u.marks
  unfolding marks_after
  same_words_size keep = refl
  same_words_size (add r) = length_with_mark u.marks (lowest_free u) 1
  same_words_size (remove j) = length_with_mark u.marks (get_or (mine x) j 0) 0

  same_rows_size : (e : Effect) → length (rows_after (lowest_free u) u.rows x e) ≡ length u.rows
  unfolding rows_after
  same_rows_size keep = refl
  same_rows_size (add r) = rw length-set
  same_rows_size (remove j) = rw length-set

  pub door_same : (e : Effect) (l : Door) → position_at (enact u d l e) d ≡ position_after (lowest_free u) x l e
  unfolding enact
  door_same e l = get_or-set_same u.doors d _ past_position (omega (arith, s.doors_size))

  pub door_other : (e : Effect) (l : Door) (k : ℕ) → k ≢ d → position_at (enact u d l e) k ≡ position_at u k
  unfolding enact
  door_other e l k n = get_or-set_other u.doors d k _ past_position n

  door_sound : (e : Effect) (l : Door) → Fits u d e → (k : ℕ) → k < doors_n → Sound (owners_after s.owners (lowest_free u) d x e) k (position_at (enact u d l e) k)
  unfolding enact
  door_sound e l fits k le = go (ℕ_discrete k d)
    where
      go : Dec (k ≡ d) → Sound (owners_after s.owners (lowest_free u) d x e) k (position_at (enact u d l e) k)
      go (yes p) = subst (λ (z : ℕ). Sound (owners_after s.owners (lowest_free u) d x e) z (position_at (enact u d l e) z)) (sym p) (rw (door_same e l) (its_sound e l fits))
      go (no n) =
          let f : Sound s.owners k (position_at u k) = s.door k le in
          rw (door_other e l k n) (record { size = f.size; most = f.most; own = (not_theirs e fits k n (mine (position_at u k)) f.own).0 })

  -- the rows that each door owns are listed: the door's own, and another's
  its_listed : (e : Effect) (l : Door) → Fits u d e → Listed (owners_after s.owners (lowest_free u) d x e) d (mine (position_after (lowest_free u) x l e))
  unfolding owners_after position_after added
  its_listed keep l fits = s.listed d h
  its_listed (add r) l fits =
      subst (λ (is : List ℕ). Listed (set s.owners (lowest_free u) (suc d)) d is) (sym (add_mine s.owners d x (s.door d h) u.rows r fits.0 (lowest_free u) (within fits.1) (nobody_has u s) same_sizes))
      (listed_set s.owners d (lowest_free u) (suc d) (mine x) (mine x ++ lowest_free u ∷ []) (within fits.1) (s.listed d h) (λ e. in_last (lowest_free u) (mine x)) (λ i n l. in_snoc i (lowest_free u) (mine x) l))
  its_listed (remove j) l fits =
      let k = cut_taken s.owners d x (s.door d h) u.rows j fits in
      subst (λ (is : List ℕ). Listed (set s.owners (get_or (mine x) j 0) 0) d is) (sym (cut_mine s.owners d x (s.door d h) u.rows j fits))
      (listed_set s.owners d (get_or (mine x) j 0) 0 (mine x) (cut j (mine x)) k.0 (s.listed d h) (λ e. absurd (omega arith)) (λ i n l. in_cut i j (mine x) l n))

  other_listed : (e : Effect) → Fits u d e → (k : ℕ) → k < doors_n → k ≢ d → Listed (owners_after s.owners (lowest_free u) d x e) k (mine (position_at u k))
  unfolding owners_after
  other_listed keep fits k le n = s.listed k le
  other_listed (add r) fits k le n =
      listed_set s.owners k (lowest_free u) (suc d) (mine (position_at u k)) (mine (position_at u k)) (within fits.1) (s.listed k le) (λ e. absurd (n (sym (suc_inj e)))) (λ i q l. l)
  other_listed (remove j) fits k le n =
      let t = cut_taken s.owners d x (s.door d h) u.rows j fits in
      listed_set s.owners k (get_or (mine x) j 0) 0 (mine (position_at u k)) (mine (position_at u k)) t.0 (s.listed k le) (λ e. absurd (omega arith)) (λ i q l. l)

  door_listed : (e : Effect) (l : Door) → Fits u d e → (k : ℕ) → k < doors_n → Listed (owners_after s.owners (lowest_free u) d x e) k (mine (position_at (enact u d l e) k))
  door_listed e l fits k le = go (ℕ_discrete k d)
    where
      go : Dec (k ≡ d) → Listed (owners_after s.owners (lowest_free u) d x e) k (mine (position_at (enact u d l e) k))
      go (yes p) = subst (λ (z : ℕ). Listed (owners_after s.owners (lowest_free u) d x e) z (mine (position_at (enact u d l e) z))) (sym p) (rw (door_same e l) (its_listed e l fits))
      go (no n) = rw (door_other e l k n) (other_listed e fits k le n)

  -- each row is nobody's or a door's, and one that is nobody's is zeros
  still_ours : (e : Effect) → Fits u d e → (i : ℕ) → get_or (owners_after s.owners (lowest_free u) d x e) i 0 ≤ doors_n
  unfolding owners_after
  still_ours keep fits = s.ours
  still_ours (add r) fits = ours_set s.owners (lowest_free u) (suc d) (within fits.1) (omega arith) s.ours
  still_ours (remove j) fits = ours_set s.owners (get_or (mine x) j 0) 0 (cut_taken s.owners d x (s.door d h) u.rows j fits).0 (omega arith) s.ours

  still_zeros : (e : Effect) → Fits u d e → (i : ℕ) → get_or (owners_after s.owners (lowest_free u) d x e) i 0 ≡ 0 → get_or (rows_after (lowest_free u) u.rows x e) i no_session ≡ no_session
  unfolding owners_after rows_after
  still_zeros keep fits = s.zeros
  still_zeros (add r) fits =
      zeros_set s.owners u.rows (lowest_free u) (suc d) r (within fits.1) (omega (arith, fits.1, s.rows_size)) (λ e. absurd (omega arith)) s.zeros
  still_zeros (remove j) fits =
      let t = cut_taken s.owners d x (s.door d h) u.rows j fits in
      zeros_set s.owners u.rows (get_or (mine x) j 0) 0 no_session t.0 (omega (arith, t.0, s.rows_size, owners_size u s)) (λ e. refl) s.zeros

  -- every effect that fits keeps the invariant
  pub inv_enact : (e : Effect) (l : Door) → Fits u d e → Inv (enact u d l e)
  unfolding enact
  inv_enact e l fits =
      record {
        owners = owners_after s.owners (lowest_free u) d x e;
        agree = its_agree e;
        words_size = same_words_size e ∙ s.words_size;
        rows_size = same_rows_size e ∙ s.rows_size;
        doors_size = rw length-set s.doors_size;
        door = door_sound e l fits;
        used = omega (arith, its_count e l fits, in_hold_set u.doors d (position_after (lowest_free u) x l e) (omega (arith, s.doors_size)), s.used);
        ours = still_ours e fits;
        zeros = still_zeros e fits;
        listed = λ k le. door_listed e l fits k le;
      }

  same_door : (l : Door) (e : Effect) → (position_after (lowest_free u) x l e).door ≡ l
  unfolding position_after
  same_door l keep = refl
  same_door l (add r) = refl
  same_door l (remove j) = refl

  -- the door's own view is what the effect makes of it, and every other door's view stays
  pub view_same : (l : Door) (e : Effect) → Fits u d e → view (enact u d l e) d ≡ record { door = l; held = effected e (view u d).held }
  unfolding enact
  view_same l e fits = rw (door_same e l) (ap₂ seen (same_door l e) (its_held e l fits))

  pub view_other : (l : Door) (e : Effect) → Fits u d e → (k : ℕ) → k < doors_n → k ≢ d → view (enact u d l e) k ≡ view u k
  unfolding enact
  view_other l e fits k le n =
      rw (door_other e l k n) (ap (λ (hs : List SessionRecord). seen (position_at u k).door hs) (not_theirs e fits k n (mine (position_at u k)) (s.door k le).own).1)
