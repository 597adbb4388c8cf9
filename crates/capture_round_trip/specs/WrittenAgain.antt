-- A capture that is read, written again, is the same bytes. Assumes nothing.
use Prim.Native.Nat.{ℕ, zero, suc, ◌+◌, ◌*◌, ◌-◌, ◌/◌, ◌%◌, ◌≤◌, ◌<◌}
use Rattle.std.specs.Prelude.{◌≡◌, List, [], ◌∷◌, Bool, not, ◌||◌, get_or, take}
use Rattle.std.proofs.Math.Path.{refl, ap, subst}
use Rattle.std.proofs.Common.{sym, ◌∙◌, ap₂, add-one, drop-drop}
use Rattle.std.proofs.Math.Bool.{true, false}
use Rattle.std.proofs.Math.Option.{Option, none, some}
use Rattle.std.proofs.Math.Nat.{add-zero, mul-div_cancel_left, mul-mod_right}
use native.Mathlib.Omega.{arith}
use borrow.Author.Tests.{le-ltb, eq-eqb}
use Rattle.std.proofs.Math.Dec.{ltb, eqb}
use Rattle.std.proofs.Math.ListN.{length, drop, length-drop}
use Rattle.wire.specs.Bytes.{Bytes, part, pasted}
use Rattle.refusals.specs.Rows.{refusal}
use Rattle.eno.specs.Option.{Written, written_as, wrote}
use Rattle.capture_layout.specs.Layout.{Handshake, contents_size, file_of, most_file, most_handshakes, count_in, door_in, place_in, length_in, end_in, body_in, handshake_in, handshakes_from, handshakes_in}
use Rattle.capture_layout.specs.Checking.{any_from, or_else, end_before, expected, refused_first, refused_then, Checked, sound, sound_unless, checked}
use Rattle.capture_layout.specs.CheckingLaws.{Laid}
use Rattle.capture_layout.proofs.CheckingLaws.{three_false, laid, body_is}
use Rattle.capture_layout.specs.Writing.{count_of, door_at, length_at, bodies_at, bodies_size, all_size, file_size, staged_at, staged_from, staged, is_wrong_count, is_no_door_at, is_long_area_at, unfit_from, writing_first, writing_then, written_unless, write_capture}
use Rattle.capture_layout.specs.Numbered.{any_of, number1, number2, number21, handshake_rows}
use Rattle.capture_layout.proofs.Refusals.{then_rows}
use Rattle.capture_layout.proofs.WritingRefusals.{doors_row, areas_row, settings_row}
use Rattle.capture_round_trip.specs.Canonical.{laid_is_file}
use Rattle.capture_round_trip.specs.Written.{none_of}

-- doors and lengths of a file, as the writer takes them
unfoldable pub entries_from : List ℕ → (n i : ℕ) → List ℕ
entries_from f zero i = []
entries_from f (suc n) i = door_in f i ∷ length_in f i 0 ∷ length_in f i 1 ∷ length_in f i 2 ∷ length_in f i 3 ∷ entries_from f n (i + 1)

unfoldable pub entries_of : List ℕ → List ℕ
entries_of f = entries_from f (count_in f) 0

length_numbers : (f : List ℕ) (n i : ℕ) → length (entries_from f n i) ≡ 5 * n
unfolding entries_from
length_numbers f zero i = refl
length_numbers f (suc n) i = let again = length_numbers f n (i + 1) in omega arith

-- the numbers of handshake i + j
record Numbers (f e : List ℕ) (i j : ℕ) : Type 0 where
  door : door_at e j ≡ door_in f i
  n₀ : length_at e j 0 ≡ length_in f i 0
  n₁ : length_at e j 1 ≡ length_in f i 1
  n₂ : length_at e j 2 ≡ length_in f i 2
  n₃ : length_at e j 3 ≡ length_in f i 3

five_further : (a b c d g : ℕ) (e : List ℕ) (m k : ℕ) → m ≡ k + 5 → get_or (a ∷ b ∷ c ∷ d ∷ g ∷ e) m 0 ≡ get_or e k 0
five_further a b c d g e m k q = let r : m ≡ suc (suc (suc (suc (suc k)))) = omega arith in ap (λ x. get_or (a ∷ b ∷ c ∷ d ∷ g ∷ e) x 0) r

numbers : (f : List ℕ) (n i j : ℕ) → j < n → Numbers f (entries_from f n i) (i + j) j
unfolding entries_from door_at length_at
numbers f zero i j h = absurd (omega arith)
numbers f (suc n) i zero h =
    let q : i ≡ i + 0 = omega arith in
    record { door = ap (door_in f) q; n₀ = ap (λ x. length_in f x 0) q; n₁ = ap (λ x. length_in f x 1) q; n₂ = ap (λ x. length_in f x 2) q; n₃ = ap (λ x. length_in f x 3) q }
numbers f (suc n) i (suc j) h =
    let again = numbers f n (i + 1) j (omega arith) in
    let q : i + 1 + j ≡ i + suc j = omega arith in
    let w = five_further (door_in f i) (length_in f i 0) (length_in f i 1) (length_in f i 2) (length_in f i 3) (entries_from f n (i + 1)) in
    record {
      door = w (5 * suc j) (5 * j) (omega arith) ∙ (again.door ∙ ap (door_in f) q);
      n₀ = w (5 * suc j + 1 + 0) (5 * j + 1 + 0) (omega arith) ∙ (again.n₀ ∙ ap (λ x. length_in f x 0) q);
      n₁ = w (5 * suc j + 1 + 1) (5 * j + 1 + 1) (omega arith) ∙ (again.n₁ ∙ ap (λ x. length_in f x 1) q);
      n₂ = w (5 * suc j + 1 + 2) (5 * j + 1 + 2) (omega arith) ∙ (again.n₂ ∙ ap (λ x. length_in f x 2) q);
      n₃ = w (5 * suc j + 1 + 3) (5 * j + 1 + 3) (omega arith) ∙ (again.n₃ ∙ ap (λ x. length_in f x 3) q);
    }

-- a part of a rest
part_of_rest : (c p n : ℕ) (f : List ℕ) (q : ℕ) → c + p ≡ q → part p n (drop c f) ≡ part q n f
unfolding part
part_of_rest c p n f q e = ap (take n) (drop-drop p c f ∙ ap (λ x. drop x f) e)

-- five numbers for each of n handshakes
fifth : (n : ℕ) → (5 * n / 5 ≡ n) × (5 * n % 5 ≡ 0)
fifth n = (mul-div_cancel_left n {n = 5} (omega arith), mul-mod_right 5 n)

end_after : (f : List ℕ) (i : ℕ) → end_before f (i + 1) ≡ end_in f i 3
unfolding end_before
end_after f i = ap (end_before f) (add-one i)

fives : (f : List ℕ) → length (entries_of f) % 5 ≡ 0
unfolding entries_of
fives f = ap (λ x. x % 5) (length_numbers f (count_in f) 0) ∙ (fifth (count_in f)).1

module _ (f : List ℕ) (l : Laid f) where
  -- the numbers of handshake i
  numbers_of : (i : ℕ) → i < count_in f → Numbers f (entries_of f) i i
  unfolding entries_of
  numbers_of i h = let q : 0 + i ≡ i = omega arith in subst (λ x. Numbers f (entries_from f (count_in f) 0) x i) q (numbers f (count_in f) 0 i h)

  -- where bodies begin
  module _ (i : ℕ) (h : i < count_in f) where
    first_place : place_in f i 0 ≡ end_before f i
    unfolding expected
    first_place = l.placed i 0 h (omega arith)

    next_place : (k : ℕ) → suc k < 4 → place_in f i (suc k) ≡ place_in f i k + length_in f i k
    unfolding expected end_in
    next_place k q = l.placed i (suc k) h q

    last_end : end_before f (i + 1) ≡ place_in f i 3 + length_in f i 3
    unfolding end_in
    last_end = end_after f i

    -- a body among all bodies
    body_there : (k at m : ℕ) → k < 4 → m ≡ length_in f i k → contents_size (count_in f) + at ≡ place_in f i k → part at m (drop (contents_size (count_in f)) f) ≡ body_in f i k
    body_there k at m q e p =
        part_of_rest (contents_size (count_in f)) at m f (place_in f i k) p ∙ (ap (λ x. part (place_in f i k) x f) e ∙ sym (body_is f i k h q (l.within i k h q)))

    handshake_there : (at : ℕ) → contents_size (count_in f) + at ≡ end_before f i → staged_at (entries_of f) (drop (contents_size (count_in f)) f) i at ≡ handshake_in f i
    unfolding staged_at handshake_in
    handshake_there at e =
        let x = numbers_of i h in
        let p₀ = first_place in
        let p₁ = next_place 0 (omega arith) in
        let p₂ = next_place 1 (omega arith) in
        let p₃ = next_place 2 (omega arith) in
        let n₀ = x.n₀ in
        let n₁ = x.n₁ in
        let n₂ = x.n₂ in
        let d = x.door in
        let at₁ = at + length_at (entries_of f) i 0 in
        let at₂ = at₁ + length_at (entries_of f) i 1 in
        let at₃ = at₂ + length_at (entries_of f) i 2 in
        let q₀ : contents_size (count_in f) + at ≡ place_in f i 0 = omega arith in
        let q₁ : contents_size (count_in f) + (at + length_at (entries_of f) i 0) ≡ place_in f i 1 = omega arith in
        let q₂ : contents_size (count_in f) + (at + length_at (entries_of f) i 0 + length_at (entries_of f) i 1) ≡ place_in f i 2 = omega arith in
        let q₃ : contents_size (count_in f) + (at + length_at (entries_of f) i 0 + length_at (entries_of f) i 1 + length_at (entries_of f) i 2) ≡ place_in f i 3 = omega arith in
        let b₀ = body_there 0 at (length_at (entries_of f) i 0) (omega arith) x.n₀ q₀ in
        let b₁ = body_there 1 at₁ (length_at (entries_of f) i 1) (omega arith) x.n₁ q₁ in
        let b₂ = body_there 2 at₂ (length_at (entries_of f) i 2) (omega arith) x.n₂ q₂ in
        let b₃ = body_there 3 at₃ (length_at (entries_of f) i 3) (omega arith) x.n₃ q₃ in
        λ j. record { door = d j; first = b₀ j; second = b₁ j; first_setting = b₂ j; second_setting = b₃ j }

    after_there : (at : ℕ) → contents_size (count_in f) + at ≡ end_before f i → contents_size (count_in f) + (at + bodies_at (entries_of f) i) ≡ end_before f (i + 1)
    unfolding bodies_at
    after_there at e =
        let x = numbers_of i h in
        let p₀ = first_place in
        let p₁ = next_place 0 (omega arith) in
        let p₂ = next_place 1 (omega arith) in
        let p₃ = next_place 2 (omega arith) in
        let p₄ = last_end in
        let n₀ = x.n₀ in
        let n₁ = x.n₁ in
        let n₂ = x.n₂ in
        let n₃ = x.n₃ in
        omega arith

  all_there : (m i at : ℕ) → i + m ≡ count_in f → contents_size (count_in f) + at ≡ end_before f i
      → (staged_from (entries_of f) (drop (contents_size (count_in f)) f) m i at ≡ handshakes_from f m i) × (contents_size (count_in f) + (at + bodies_size (entries_of f) m i) ≡ end_before f (i + m))
  unfolding staged_from handshakes_from bodies_size
  all_there zero i at n e =
      let q : i ≡ i + 0 = omega arith in
      let z : at + 0 ≡ at = omega arith in
      (refl, ap (λ x. contents_size (count_in f) + x) z ∙ (e ∙ ap (end_before f) q))
  all_there (suc m) i at n e =
      let h : i < count_in f = omega arith in
      let again = all_there m (i + 1) (at + bodies_at (entries_of f) i) (omega arith) (after_there i h at e) in
      let q : i + 1 + m ≡ i + suc m = omega arith in
      let z : at + (bodies_at (entries_of f) i + bodies_size (entries_of f) m (i + 1)) ≡ at + bodies_at (entries_of f) i + bodies_size (entries_of f) m (i + 1) = omega arith in
      (ap₂ (λ x y. x ∷ y) (handshake_there i h at e) again.0, ap (λ x. contents_size (count_in f) + x) z ∙ (again.1 ∙ ap (end_before f) q))

  end_within : (m : ℕ) → m ≡ count_in f → end_before f m ≤ length f
  unfolding end_before
  end_within zero e = l.contents
  end_within (suc m) e = l.within m 3 (omega arith) (omega arith)

  count_of_lem : count_of (entries_of f) ≡ count_in f
  unfolding count_of entries_of
  count_of_lem = ap (λ x. x / 5) (length_numbers f (count_in f) 0) ∙ (fifth (count_in f)).0

  start : contents_size (count_in f) + 0 ≡ end_before f 0
  unfolding end_before
  start = add-zero (contents_size (count_in f))

  all_of : (staged (entries_of f) (drop (contents_size (count_in f)) f) ≡ handshakes_in f) × (contents_size (count_in f) + all_size (entries_of f) ≡ length f)
  unfolding staged handshakes_in all_size
  all_of =
      let a = all_there (count_in f) 0 0 (omega arith) start in
      let z : 0 + count_in f ≡ count_in f = omega arith in
      let y : 0 + bodies_size (entries_of f) (count_in f) 0 ≡ bodies_size (entries_of f) (count_in f) 0 = omega arith in
      let w = end_within (count_in f) refl in
      let r = l.no_rest in
      let same : end_before f (count_in f) ≡ length f = omega arith in (
        ap (λ m. staged_from (entries_of f) (drop (contents_size (count_in f)) f) m 0 0) count_of_lem ∙ a.0,
        ap (λ m. contents_size (count_in f) + bodies_size (entries_of f) m 0) count_of_lem ∙ (ap (λ x. contents_size (count_in f) + x) (sym y) ∙ (a.1 ∙ (ap (end_before f) z ∙ same))),
      )

  first_none : writing_first (entries_of f) (drop (contents_size (count_in f)) f) ≡ none
  unfolding writing_first is_wrong_count refusal file_size
  first_none =
      let e = entries_of f in
      let s = drop (contents_size (count_in f)) f in
      let all = all_of.1 in
      let long = length-drop (contents_size (count_in f)) f in
      let c = count_of_lem in
      let small = l.small in
      let few = l.few in
      let size : contents_size (count_of e) + all_size e ≡ length f = ap (λ m. contents_size m + all_size e) c ∙ all in
      let t₁ : eqb (length e % 5) 0 ≡ true = eq-eqb (length e % 5) 0 (fives f) in
      let t₂ : ltb most_handshakes (count_of e) ≡ false = le-ltb most_handshakes (count_of e) (omega arith) in
      let t₃ : ltb most_file (contents_size (count_of e) + all_size e) ≡ false = le-ltb most_file (contents_size (count_of e) + all_size e) (omega arith) in
      let t₄ : ltb (length s) (all_size e) ≡ false = le-ltb (length s) (all_size e) (omega arith) in
      let t₅ : ltb (all_size e) (length s) ≡ false = le-ltb (all_size e) (length s) (omega arith) in
      λ j. refusal ((not (t₁ j) || (t₂ j || t₃ j), 18) ∷ (t₄ j, 19) ∷ (t₅ j, 20) ∷ [])

  then_none : (out : List ℕ) → refused_then f ≡ none → length f ≤ length out → writing_then (entries_of f) (drop (contents_size (count_in f)) f) (length out) ≡ none
  unfolding writing_then refusal handshake_rows file_size staged all_size
  then_none out e room =
      let x = entries_of f in
      let s = drop (contents_size (count_in f)) f in
      let hs = handshakes_in f in
      let t = three_false (any_of number1 hs) (any_of number2 hs) (any_of number21 hs) 1 2 21 (sym (then_rows f l) ∙ e) in
      let same = all_of.0 in
      let all = all_of.1 in
      let long = length-drop (contents_size (count_in f)) f in
      let within : 0 + bodies_size x (count_of x) 0 ≤ length s = omega arith in
      let size : contents_size (count_of x) + bodies_size x (count_of x) 0 ≡ length f = ap (λ m. contents_size m + all_size x) count_of_lem ∙ all in
      let r₁ = doors_row x s (count_of x) 0 0 ∙ (ap (any_of number1) same ∙ t.0) in
      let r₂ = areas_row x s (count_of x) 0 0 within ∙ (ap (any_of number2) same ∙ t.1) in
      let r₃ : ltb (length out) (contents_size (count_of x) + bodies_size x (count_of x) 0) ≡ false = le-ltb (length out) (contents_size (count_of x) + bodies_size x (count_of x) 0) (omega arith) in
      let r₄ = settings_row x s (count_of x) 0 0 ∙ (ap (any_of number21) same ∙ t.2) in
      λ j. refusal ((r₁ j, 1) ∷ (r₂ j, 2) ∷ (r₃ j, 5) ∷ (r₄ j, 21) ∷ [])

not_refused : (x : Option ℕ) (k n : ℕ) → sound_unless x k ≡ sound n → (x ≡ none) × (k ≡ n)
not_refused none k n e = (refl, cc)
not_refused (some m) k n e = let z : ◌≡◌ {A = ℕ} 0 1 = cc in absurd (omega arith)

-- a sound file, its doors and lengths and what stands behind its contents written to a buffer that has room for it: the same bytes
pub capture_written_again : (f : List ℕ) → Bytes f → (n : ℕ) → checked f ≡ sound n → (out : List ℕ) → length f ≤ length out
    → write_capture (entries_of f) (drop (contents_size n) f) out ≡ written_as (wrote (length f)) (pasted out 0 f)
unfolding checked write_capture
capture_written_again f b n good out room =
    let k = not_refused (or_else (refused_first f) (refused_then f)) (count_in f) n good in
    let r = none_of (refused_first f) (refused_then f) k.0 in
    let l = laid f r.0 in
    let first = first_none f l in
    let then = then_none f l out r.1 room in
    let file : file_of (staged (entries_of f) (drop (contents_size (count_in f)) f)) ≡ f = ap file_of (all_of f l).0 ∙ laid_is_file f b l in
    ap (λ m. write_capture (entries_of f) (drop (contents_size m) f) out) (sym k.1) ∙ (λ j. written_unless (or_else (first j) (then j)) out (file j))
