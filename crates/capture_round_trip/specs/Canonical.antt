-- A file to which 18, 19 and 20 do not apply is the file of its handshakes: the format is canonical. Assumes nothing.
use Prim.Native.Nat.{ℕ, zero, suc, ◌+◌, ◌*◌, ◌≤◌, ◌<◌}
use Rattle.std.specs.Prelude.{◌≡◌, refl, get_or, take}
use Rattle.std.proofs.Math.Path.{sym, ap, ap₂}
use Rattle.std.proofs.Common.{◌∙◌, add-zero, add-one, take-append-drop, drop-drop}
use mathlib.Core.List.{List, [], ◌∷◌, ◌++◌, append_assoc, append-nil}
use Rattle.std.proofs.Math.Option.{none}
use native.Mathlib.Omega.{arith}
use Rattle.std.proofs.Math.ListN.{length, drop, drop_of_length-le}
use Rattle.std.proofs.Math.Seq.{drop-cons}
use Rattle.wire.specs.Bytes.{Bytes, bytes_from, part}
use Rattle.wire.specs.Number.{big_endian, number, number_at}
use Rattle.wire.specs.ByteLaws.{length_bytes_from, bytes_from_bytes, bytes_from_part}
use Rattle.wire.specs.NumberLaws.{big_number}
use Rattle.capture_layout.specs.Layout.{Handshake, bodies_of, joined, size_of, all_bodies, contents_size, extents, entries, file_of, count_in, door_in, place_in, length_in, end_in, body_in, handshake_in, handshakes_from, handshakes_in}
use Rattle.capture_layout.specs.Checking.{end_before, expected, refused_first}
use Rattle.capture_layout.specs.CheckingLaws.{Laid}
use Rattle.capture_layout.proofs.CheckingLaws.{laid, body_is, body_length}

-- a part, and what stands behind it
pub part_rest : (p n : ℕ) (f : List ℕ) → part p n f ++ drop (p + n) f ≡ drop p f
unfolding part
part_rest p n f = ap (λ l. take n (drop p f) ++ l) (sym (drop-drop n p f)) ∙ take-append-drop n (drop p f)

-- the bytes of a number that is read are those that stand there
pub big_rest : (w p : ℕ) (f : List ℕ) → Bytes f → p + w ≤ length f → big_endian w (number_at w f p) ++ drop (p + w) f ≡ drop p f
unfolding number_at
big_rest w p f b h =
    let l = bytes_from w f p in
    ap (λ x. x ++ drop (p + w) f)
    (ap (λ n. big_endian n (number l)) (sym (length_bytes_from w f p)) ∙ (big_number l (bytes_from_bytes w f p b) ∙ bytes_from_part w f p h))
    ∙ part_rest p w f

-- extents and bodies before something else
pub extents_then : (at : ℕ) (b : List ℕ) (l : List (List ℕ)) (r : List ℕ)
    → extents at (b ∷ l) ++ r ≡ big_endian 4 at ++ (big_endian 4 (length b) ++ (extents (at + length b) l ++ r))
unfolding extents
extents_then at b l r =
    append_assoc (big_endian 4 at) (big_endian 4 (length b) ++ extents (at + length b) l) r
    ∙ ap (λ x. big_endian 4 at ++ x) (append_assoc (big_endian 4 (length b)) (extents (at + length b) l) r)

pub joined_then : (b : List ℕ) (l : List (List ℕ)) (r : List ℕ) → joined (b ∷ l) ++ r ≡ b ++ (joined l ++ r)
unfolding joined
joined_then b l r = append_assoc b (joined l) r

pub length_from : (f : List ℕ) (n i : ℕ) → length (handshakes_from f n i) ≡ n
unfolding handshakes_from
length_from f zero i = refl
length_from f (suc n) i = ap suc (length_from f n (i + 1))

module _ (f : List ℕ) (b : Bytes f) (l : Laid f) where
  -- place and length of a body, and what stands behind them
  extent : (i k at n : ℕ) (r : List ℕ) → i < count_in f → k < 4 → at ≡ place_in f i k → n ≡ length_in f i k → r ≡ drop (11 + 33 * i + 8 * k) f
      → big_endian 4 at ++ (big_endian 4 n ++ r) ≡ drop (3 + 33 * i + 8 * k) f
  unfolding place_in length_in contents_size
  extent i k at n r h q ea en er =
      let c = l.contents in
      let e₁ : 11 + 33 * i + 8 * k ≡ 7 + 33 * i + 8 * k + 4 = omega arith in
      let e₂ : 7 + 33 * i + 8 * k ≡ 3 + 33 * i + 8 * k + 4 = omega arith in
      let h₁ : 7 + 33 * i + 8 * k + 4 ≤ length f = omega arith in
      let h₂ : 3 + 33 * i + 8 * k + 4 ≤ length f = omega arith in
      let inner : big_endian 4 n ++ r ≡ drop (7 + 33 * i + 8 * k) f =
      ap₂ (λ x y. big_endian 4 x ++ y) en (er ∙ ap (λ j. drop j f) e₁) ∙ big_rest 4 (7 + 33 * i + 8 * k) f b h₁ in
      ap₂ (λ x y. big_endian 4 x ++ y) ea (inner ∙ ap (λ j. drop j f) e₂) ∙ big_rest 4 (3 + 33 * i + 8 * k) f b h₂

  module _ (i : ℕ) (h : i < count_in f) where
    within : (k : ℕ) → k < 4 → end_in f i k ≤ length f
    within k q = l.within i k h q

    long : (k : ℕ) → k < 4 → length (body_in f i k) ≡ length_in f i k
    long k q = body_length f i k h q (within k q)

    -- a body begins where the one before it ends
    next : (k : ℕ) → suc k < 4 → (at : ℕ) → at ≡ place_in f i k → at + length (body_in f i k) ≡ place_in f i (suc k)
    unfolding end_in expected
    next k q at e = ap₂ (λ x y. x + y) e (long k (omega arith)) ∙ sym (l.placed i (suc k) h q)

    -- the extents of a handshake
    extents_are : (at : ℕ) → at ≡ place_in f i 0 → extents at (bodies_of (handshake_in f i)) ++ drop (2 + 33 * (i + 1)) f ≡ drop (3 + 33 * i) f
    unfolding handshake_in extents
    extents_are at e₀ =
        let b₀ = body_in f i 0 in
        let b₁ = body_in f i 1 in
        let b₂ = body_in f i 2 in
        let b₃ = body_in f i 3 in
        let r = drop (2 + 33 * (i + 1)) f in
        let at₁ = at + length b₀ in
        let at₂ = at₁ + length b₁ in
        let at₃ = at₂ + length b₂ in
        let e₁ : at₁ ≡ place_in f i 1 = next 0 (omega arith) at e₀ in
        let e₂ : at₂ ≡ place_in f i 2 = next 1 (omega arith) at₁ e₁ in
        let e₃ : at₃ ≡ place_in f i 3 = next 2 (omega arith) at₂ e₂ in
        let k₃ : 2 + 33 * (i + 1) ≡ 11 + 33 * i + 8 * 3 = omega arith in
        let k₂ : 3 + 33 * i + 8 * 3 ≡ 11 + 33 * i + 8 * 2 = omega arith in
        let k₁ : 3 + 33 * i + 8 * 2 ≡ 11 + 33 * i + 8 * 1 = omega arith in
        let k₀ : 3 + 33 * i + 8 * 1 ≡ 11 + 33 * i + 8 * 0 = omega arith in
        let k : 3 + 33 * i + 8 * 0 ≡ 3 + 33 * i = omega arith in
        let x₃ : extents at₃ (b₃ ∷ []) ++ r ≡ drop (3 + 33 * i + 8 * 3) f =
        extents_then at₃ b₃ [] r ∙ extent i 3 at₃ (length b₃) r h (omega arith) e₃ (long 3 (omega arith)) (ap (λ j. drop j f) k₃) in
        let x₂ : extents at₂ (b₂ ∷ b₃ ∷ []) ++ r ≡ drop (3 + 33 * i + 8 * 2) f =
        extents_then at₂ b₂ (b₃ ∷ []) r ∙ extent i 2 at₂ (length b₂) _ h (omega arith) e₂ (long 2 (omega arith)) (x₃ ∙ ap (λ j. drop j f) k₂) in
        let x₁ : extents at₁ (b₁ ∷ b₂ ∷ b₃ ∷ []) ++ r ≡ drop (3 + 33 * i + 8 * 1) f =
        extents_then at₁ b₁ (b₂ ∷ b₃ ∷ []) r ∙ extent i 1 at₁ (length b₁) _ h (omega arith) e₁ (long 1 (omega arith)) (x₂ ∙ ap (λ j. drop j f) k₁) in
        extents_then at b₀ (b₁ ∷ b₂ ∷ b₃ ∷ []) r
        ∙ (extent i 0 at (length b₀) _ h (omega arith) e₀ (long 0 (omega arith)) (x₁ ∙ ap (λ j. drop j f) k₀) ∙ ap (λ j. drop j f) k)

    -- where the next handshake's bodies begin
    ends : end_before f i + size_of (handshake_in f i) ≡ end_before f (i + 1)
    unfolding size_of handshake_in end_in end_before expected
    ends =
        let p₀ : place_in f i 0 ≡ end_before f i = l.placed i 0 h (omega arith) in
        let p₁ : place_in f i 1 ≡ place_in f i 0 + length_in f i 0 = l.placed i 1 h (omega arith) in
        let p₂ : place_in f i 2 ≡ place_in f i 1 + length_in f i 1 = l.placed i 2 h (omega arith) in
        let p₃ : place_in f i 3 ≡ place_in f i 2 + length_in f i 2 = l.placed i 3 h (omega arith) in
        let n₀ = long 0 (omega arith) in
        let n₁ = long 1 (omega arith) in
        let n₂ = long 2 (omega arith) in
        let n₃ = long 3 (omega arith) in
        let e : end_before f i + (length (body_in f i 0) + length (body_in f i 1) + length (body_in f i 2) + length (body_in f i 3)) ≡ place_in f i 3 + length_in f i 3 = omega arith in
        e ∙ ap (end_before f) (sym (add-one i))

    -- the bodies of a handshake
    piece : (k j : ℕ) → k < 4 → j ≡ end_in f i k → body_in f i k ++ drop j f ≡ drop (place_in f i k) f
    unfolding end_in
    piece k j q e = ap₂ (λ x y. x ++ drop y f) (body_is f i k h q (within k q)) e ∙ part_rest (place_in f i k) (length_in f i k) f

    joined_are : joined (bodies_of (handshake_in f i)) ++ drop (end_before f (i + 1)) f ≡ drop (end_before f i) f
    unfolding handshake_in end_before expected joined
    joined_are =
        let b₀ = body_in f i 0 in
        let b₁ = body_in f i 1 in
        let b₂ = body_in f i 2 in
        let b₃ = body_in f i 3 in
        let r = drop (end_before f (i + 1)) f in
        let last : end_before f (i + 1) ≡ end_in f i 3 = ap (end_before f) (add-one i) in
        let x₃ : joined (b₃ ∷ []) ++ r ≡ drop (place_in f i 3) f = joined_then b₃ [] r ∙ piece 3 (end_before f (i + 1)) (omega arith) last in
        let x₂ : joined (b₂ ∷ b₃ ∷ []) ++ r ≡ drop (place_in f i 2) f =
        joined_then b₂ (b₃ ∷ []) r ∙ (ap (λ x. b₂ ++ x) x₃ ∙ piece 2 (place_in f i 3) (omega arith) (l.placed i 3 h (omega arith))) in
        let x₁ : joined (b₁ ∷ b₂ ∷ b₃ ∷ []) ++ r ≡ drop (place_in f i 1) f =
        joined_then b₁ (b₂ ∷ b₃ ∷ []) r ∙ (ap (λ x. b₁ ++ x) x₂ ∙ piece 1 (place_in f i 2) (omega arith) (l.placed i 2 h (omega arith))) in
        joined_then b₀ (b₁ ∷ b₂ ∷ b₃ ∷ []) r
        ∙ (ap (λ x. b₀ ++ x) x₁
        ∙ (piece 0 (place_in f i 1) (omega arith) (l.placed i 1 h (omega arith)) ∙ ap (λ j. drop j f) (l.placed i 0 h (omega arith))))

  -- the contents from a handshake on, and the bodies from there on
  entries_are : (n i at : ℕ) → i + n ≡ count_in f → at ≡ end_before f i → entries at (handshakes_from f n i) ++ drop (contents_size (count_in f)) f ≡ drop (2 + 33 * i) f
  unfolding entries handshakes_from contents_size door_in end_before expected place_in handshake_in
  entries_are zero i at e a = let q : 2 + 33 * count_in f ≡ 2 + 33 * i = omega arith in ap (λ j. drop j f) q
  entries_are (suc n) i at e a =
      let h : i < count_in f = omega arith in
      let x = handshake_in f i in
      let size : at + size_of x ≡ end_before f (i + 1) = ap (λ y. y + size_of x) a ∙ ends i h in
      let again = entries_are n (i + 1) (at + size_of x) (omega arith) size in
      let place : at ≡ place_in f i 0 = a ∙ sym (l.placed i 0 h (omega arith)) in
      let c = l.contents in
      let there : 2 + 33 * i < length f = omega arith in
      let e₁ : 3 + 33 * i ≡ suc (2 + 33 * i) = omega arith in
      ap (λ y. door_in f i ∷ y)
      (append_assoc (extents at (bodies_of x)) (entries (at + size_of x) (handshakes_from f n (i + 1))) (drop (2 + 33 * count_in f) f)
      ∙ (ap (λ y. extents at (bodies_of x) ++ y) again ∙ (extents_are i h at place ∙ ap (λ j. drop j f) e₁)))
      ∙ sym (door_cons i there)
    where
      door_cons : (i : ℕ) → 2 + 33 * i < length f → drop (2 + 33 * i) f ≡ door_in f i ∷ drop (suc (2 + 33 * i)) f
      door_cons i there = drop-cons f (2 + 33 * i) 0 there

  bodies_are : (n i : ℕ) → i + n ≡ count_in f → all_bodies (handshakes_from f n i) ++ drop (end_before f (count_in f)) f ≡ drop (end_before f i) f
  unfolding all_bodies handshakes_from
  bodies_are zero i e = let q : count_in f ≡ i = omega arith in ap (λ j. drop (end_before f j) f) q
  bodies_are (suc n) i e =
      let h : i < count_in f = omega arith in
      append_assoc (joined (bodies_of (handshake_in f i))) (all_bodies (handshakes_from f n (i + 1))) (drop (end_before f (count_in f)) f)
      ∙ (ap (λ y. joined (bodies_of (handshake_in f i)) ++ y) (bodies_are n (i + 1) (omega arith)) ∙ joined_are i h)

  pub laid_is_file : file_of (handshakes_in f) ≡ f
  unfolding file_of handshakes_in end_before contents_size count_in
  laid_is_file =
      let n = count_in f in
      let hs = handshakes_from f n 0 in
      let none_left : drop (end_before f n) f ≡ [] = drop_of_length-le f {i = end_before f n} l.no_rest in
      let all : all_bodies hs ≡ drop (contents_size n) f =
      sym (append-nil (all_bodies hs)) ∙ (ap (λ y. all_bodies hs ++ y) (sym none_left) ∙ bodies_are n 0 (omega arith)) in
      let c = l.contents in
      let two : 0 + 2 ≤ length f = omega arith in
      ap (λ m. big_endian 2 m ++ (entries (contents_size m) hs ++ all_bodies hs)) (length_from f n 0)
      ∙ (ap (λ y. big_endian 2 n ++ y) (ap (λ y. entries (contents_size n) hs ++ y) all ∙ entries_are n 0 (contents_size n) (omega arith) refl)
      ∙ big_rest 2 0 f b two)

-- a file to which 18, 19 and 20 do not apply is the file of its handshakes, and so of no others
pub file_is_its_handshakes : (f : List ℕ) → Bytes f → refused_first f ≡ none → file_of (handshakes_in f) ≡ f
file_is_its_handshakes f b e = laid_is_file f b (laid f e)
