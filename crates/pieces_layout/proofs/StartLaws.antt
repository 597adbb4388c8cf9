-- Starting a reader: it is refused with n exactly when n is the least number that applies, a refusal leaves the reader as it was, and a reader that is started waits. Assumes nothing.
use Rattle.std.specs.Prelude.{ℕ, List, [], ◌∷◌, ◌||◌, ◌↔◌, ltb, length}
use Rattle.std.proofs.Math.Path.{◌≡◌, refl}
use Rattle.std.proofs.Common.{sym, ◌∙◌, ap, arith}
use Rattle.std.proofs.Math.Option.{Option, none, some}
use Rattle.refusals.specs.Rows.{refusal, Rising, Least}
use Rattle.refusals.specs.RowLaws.{first_is_least}
use Rattle.init_layout.proofs.Refusals.{bad_tep_lem}
use Rattle.pieces_layout.specs.Reader.{Reader, reader_of, numbers_n, gathered_n, become}
use Rattle.pieces_layout.specs.Starts.{Start, for_init1, for_init2, for_frames, begun_as, is_unfit, no_room_for, fresh, unless, start}
use Rattle.pieces_layout.specs.StartLaws.{number3, number5, rows, applies, Lone}

module _ (r x : Reader) where
  told : (t : Option ℕ) → (unless t r x).refused_by ≡ t
  unfolding unless
  told none = refl
  told (some n) = refl

  kept : (t : Option ℕ) (n : ℕ) → (unless t r x).refused_by ≡ some n → (unless t r x).reader ≡ r
  unfolding unless
  kept none n e = let z : ◌≡◌ {A = ℕ} 0 1 = cc in absurd (omega arith)
  kept (some m) n e = refl

  done : (t : Option ℕ) → (unless t r x).refused_by ≡ none → (unless t r x).reader ≡ x
  unfolding unless
  done none e = refl
  done (some m) e = let z : ◌≡◌ {A = ℕ} 0 1 = cc in absurd (omega arith)

unfit_is : (c : Start) → is_unfit c ≡ number3 c
unfolding is_unfit number3
unfit_is (for_init1 t enabled) = bad_tep_lem t
unfit_is (for_init2 t own) = ap (λ b. b || ltb 255 (length own)) (bad_tep_lem t)
unfit_is for_frames = refl

no_room_is : (c : Start) (r : Reader) → no_room_for c r ≡ number5 c r
unfolding no_room_for number5 numbers_n gathered_n
no_room_is (for_init1 t enabled) r = refl
no_room_is (for_init2 t own) r = refl
no_room_is for_frames r = refl

refused_by_rows : (c : Start) (r : Reader) → (start c r).refused_by ≡ refusal (rows c r)
unfolding start rows
refused_by_rows c r = told r (fresh c r) (refusal ((is_unfit c, 3) ∷ (no_room_for c r, 5) ∷ [])) ∙ (rw (unfit_is c, no_room_is c r))

rows_rise : (c : Start) (r : Reader) → Rising 0 (rows c r)
unfolding rows
rows_rise c r = (omega arith, (omega arith, tt))

-- refused with n exactly when n is the least number that applies; so no other number occurs
pub start_exactly : (c : Start) (r : Reader) (n : ℕ) → ((start c r).refused_by ≡ some n) ↔ Least (applies c r) n
unfolding applies
start_exactly c r n =
    let both = first_is_least (rows c r) 0 (rows_rise c r) n in (
      λ e. both.0 (sym (refused_by_rows c r) ∙ e),
      λ l. refused_by_rows c r ∙ both.1 l,
    )

-- a refusal leaves the reader as it was
pub start_refused : (c : Start) (r : Reader) (n : ℕ) → (start c r).refused_by ≡ some n → (start c r).reader ≡ r
unfolding start
start_refused c r n e = kept r (fresh c r) (refusal ((is_unfit c, 3) ∷ (no_room_for c r, 5) ∷ [])) n e

-- else it waits for the first byte of the stream
pub start_fresh : (c : Start) (r : Reader) → (start c r).refused_by ≡ none → (start c r).reader ≡ fresh c r
unfolding start
start_fresh c r e = done r (fresh c r) (refusal ((is_unfit c, 3) ∷ (no_room_for c r, 5) ∷ [])) e

pub start_lone : (c : Start) → Lone c → (n g : List ℕ) → start c (reader_of n g) ≡ begun_as (start c (reader_of n [])).refused_by (reader_of (start c (reader_of n [])).reader.numbers g)
unfolding start no_room_for fresh become unless
start_lone (for_init1 t enabled) l n g = go (refusal ((is_unfit (for_init1 t enabled), 3) ∷ (ltb (length n) numbers_n, 5) ∷ []))
  where
    go : (x : Option ℕ) → unless x (reader_of n g) (fresh (for_init1 t enabled) (reader_of n g))
        ≡ begun_as (unless x (reader_of n []) (fresh (for_init1 t enabled) (reader_of n []))).refused_by (reader_of (unless x (reader_of n []) (fresh (for_init1 t enabled) (reader_of n []))).reader.numbers g)
    go none = refl
    go (some k) = refl
start_lone (for_init2 t own) l n g = absurd l
start_lone for_frames l n g = go (refusal ((is_unfit for_frames, 3) ∷ (ltb (length n) numbers_n, 5) ∷ []))
  where
    go : (x : Option ℕ) → unless x (reader_of n g) (fresh for_frames (reader_of n g))
        ≡ begun_as (unless x (reader_of n []) (fresh for_frames (reader_of n []))).refused_by (reader_of (unless x (reader_of n []) (fresh for_frames (reader_of n []))).reader.numbers g)
    go none = refl
    go (some k) = refl
