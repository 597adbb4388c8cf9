-- The file of a list of handshakes is read as that list, and 18, 19 and 20 do not apply to it. Assumes nothing.
use Prim.Native.Nat.{ℕ, zero, suc, ◌+◌, ◌*◌, ◌-◌, ◌^◌, ◌≤◌, ◌<◌}
use Rattle.std.specs.Prelude.{◌≡◌, Bool, true, not, ◌||◌, eqb, get_or}
use Rattle.std.proofs.Math.Path.{refl, sym, ap, ap₂}
use Rattle.std.proofs.Common.{◌∙◌, add-zero, add-one, length-append, length-drop, drop-drop, drop_at}
use mathlib.Core.List.{List, [], ◌∷◌, ◌++◌, append_assoc, append-nil}
use Rattle.std.proofs.Math.Bool.{false}
use Rattle.std.proofs.Math.Option.{none}
use native.Mathlib.Omega.{arith}
use borrow.Author.Tests.{le-ltb, eq-eqb}
use Rattle.std.proofs.Math.Dec.{ltb, lit<}
use Rattle.std.proofs.Math.ListN.{length, take, drop}
use Rattle.std.proofs.Math.Seq.{take_at}
use Rattle.wire.specs.Bytes.{bytes_from, part}
use Rattle.wire.specs.Number.{big_endian, number, number_at}
use Rattle.wire.specs.ByteLaws.{bytes_from_part}
use Rattle.wire.specs.NumberLaws.{length_big, number_big_whole}
use Rattle.eno.proofs.Laws.Encoding.{rest_at, rest_drop}
use Rattle.refusals.specs.Rows.{refusal}
use Rattle.capture_layout.specs.Layout.{Handshake, bodies_of, joined, size_of, all_bodies, contents_size, extents, entries, file_of, most_file, most_handshakes, count_in, door_in, place_in, length_in, end_in, body_in, handshake_in, handshakes_from, handshakes_in}
use Rattle.capture_layout.specs.Checking.{any_from, any_body, is_wrong_size, is_past_end, end_before, expected, is_misplaced, has_rest, refused_first}
use Rattle.capture_layout.proofs.CheckingLaws.{body_is}
use Rattle.capture_round_trip.specs.Canonical.{extents_then, joined_then}

-- a number that stands at a place, and what stands behind bytes
number_stands : (w p x : ℕ) (f r : List ℕ) → 0 < w → x < 256 ^ w → drop p f ≡ big_endian w x ++ r → number_at w f p ≡ x
unfolding number_at part
number_stands w p x f r there small e =
    let n : length f - p ≡ w + length r = sym (length-drop p f) ∙ (ap length e ∙ (length-append (big_endian w x) r ∙ ap (λ k. k + length r) (length_big w x))) in
    let fits : p + w ≤ length f = omega arith in
    ap number (bytes_from_part w f p fits ∙ (ap (take w) e ∙ take_at (big_endian w x) r w (length_big w x))) ∙ number_big_whole w x small

behind : (p n : ℕ) (f xs r : List ℕ) → length xs ≡ n → drop p f ≡ xs ++ r → drop (p + n) f ≡ r
behind p n f xs r h e = sym (drop-drop n p f) ∙ (ap (drop n) e ∙ drop_at xs r n h)

-- place and length of a body, as they were written
record Extent (f : List ℕ) (i k at n : ℕ) (r : List ℕ) : Type 0 where
  place : place_in f i k ≡ at
  size : length_in f i k ≡ n
  rest : drop (11 + 33 * i + 8 * k) f ≡ r

small_number : (n : ℕ) → n ≤ 65536 → n < 256 ^ 4
small_number n h = let c : 65536 < 256 ^ 4 = lit< tt in omega arith

extent : (f : List ℕ) (i k at n : ℕ) (r : List ℕ) → at ≤ 65536 → n ≤ 65536 → drop (3 + 33 * i + 8 * k) f ≡ big_endian 4 at ++ (big_endian 4 n ++ r) → Extent f i k at n r
unfolding place_in length_in
extent f i k at n r ha hn e =
    let p = 3 + 33 * i + 8 * k in
    let p₂ = 7 + 33 * i + 8 * k in
    let q : 7 + 33 * i + 8 * k ≡ 3 + 33 * i + 8 * k + 4 = omega arith in
    let q₂ : 11 + 33 * i + 8 * k ≡ 7 + 33 * i + 8 * k + 4 = omega arith in
    let e₂ : drop p₂ f ≡ big_endian 4 n ++ r = ap (λ j. drop j f) q ∙ behind p 4 f (big_endian 4 at) (big_endian 4 n ++ r) (length_big 4 at) e in
    record {
      place = number_stands 4 p at f (big_endian 4 n ++ r) (omega arith) (small_number at ha) e;
      size = number_stands 4 p₂ n f r (omega arith) (small_number n hn) e₂;
      rest = ap (λ j. drop j f) q₂ ∙ behind p₂ 4 f (big_endian 4 n) r (length_big 4 n) e₂;
    }

-- a handshake's entry, as it was written
record Entry (f : List ℕ) (i at : ℕ) (h : Handshake) (r : List ℕ) : Type 0 where
  door : door_in f i ≡ h.door
  p₀ : place_in f i 0 ≡ at
  p₁ : place_in f i 1 ≡ at + length h.first
  p₂ : place_in f i 2 ≡ at + length h.first + length h.second
  p₃ : place_in f i 3 ≡ at + length h.first + length h.second + length h.first_setting
  n₀ : length_in f i 0 ≡ length h.first
  n₁ : length_in f i 1 ≡ length h.second
  n₂ : length_in f i 2 ≡ length h.first_setting
  n₃ : length_in f i 3 ≡ length h.second_setting
  rest : drop (2 + 33 * (i + 1)) f ≡ r

entry : (f : List ℕ) (i at : ℕ) (h : Handshake) (r : List ℕ) → at + size_of h ≤ 65536 → drop (2 + 33 * i) f ≡ h.door ∷ (extents at (bodies_of h) ++ r) → Entry f i at h r
unfolding size_of door_in extents
entry f i at h r small e =
    let b₀ = h.first in
    let b₁ = h.second in
    let b₂ = h.first_setting in
    let b₃ = h.second_setting in
    let at₁ = at + length b₀ in
    let at₂ = at₁ + length b₁ in
    let at₃ = at₂ + length b₂ in
    let t = h.door ∷ (extents at (bodies_of h) ++ r) in
    let k₀ : 3 + 33 * i + 8 * 0 ≡ 2 + 33 * i + 1 = omega arith in
    let k₁ : 3 + 33 * i + 8 * 1 ≡ 11 + 33 * i + 8 * 0 = omega arith in
    let k₂ : 3 + 33 * i + 8 * 2 ≡ 11 + 33 * i + 8 * 1 = omega arith in
    let k₃ : 3 + 33 * i + 8 * 3 ≡ 11 + 33 * i + 8 * 2 = omega arith in
    let k₄ : 2 + 33 * (i + 1) ≡ 11 + 33 * i + 8 * 3 = omega arith in
    let e₀ : drop (3 + 33 * i + 8 * 0) f ≡ big_endian 4 at ++ (big_endian 4 (length b₀) ++ (extents at₁ (b₁ ∷ b₂ ∷ b₃ ∷ []) ++ r)) =
    rest_drop f t (2 + 33 * i) e 1 (3 + 33 * i + 8 * 0) k₀ ∙ extents_then at b₀ (b₁ ∷ b₂ ∷ b₃ ∷ []) r in
    let x₀ = extent f i 0 at (length b₀) (extents at₁ (b₁ ∷ b₂ ∷ b₃ ∷ []) ++ r) (omega arith) (omega arith) e₀ in
    let e₁ : drop (3 + 33 * i + 8 * 1) f ≡ big_endian 4 at₁ ++ (big_endian 4 (length b₁) ++ (extents at₂ (b₂ ∷ b₃ ∷ []) ++ r)) =
    ap (λ j. drop j f) k₁ ∙ (x₀.rest ∙ extents_then at₁ b₁ (b₂ ∷ b₃ ∷ []) r) in
    let x₁ = extent f i 1 at₁ (length b₁) (extents at₂ (b₂ ∷ b₃ ∷ []) ++ r) (omega arith) (omega arith) e₁ in
    let e₂ : drop (3 + 33 * i + 8 * 2) f ≡ big_endian 4 at₂ ++ (big_endian 4 (length b₂) ++ (extents at₃ (b₃ ∷ []) ++ r)) =
    ap (λ j. drop j f) k₂ ∙ (x₁.rest ∙ extents_then at₂ b₂ (b₃ ∷ []) r) in
    let x₂ = extent f i 2 at₂ (length b₂) (extents at₃ (b₃ ∷ []) ++ r) (omega arith) (omega arith) e₂ in
    let e₃ : drop (3 + 33 * i + 8 * 3) f ≡ big_endian 4 at₃ ++ (big_endian 4 (length b₃) ++ r) =
    ap (λ j. drop j f) k₃ ∙ (x₂.rest ∙ extents_then at₃ b₃ [] r) in
    let x₃ = extent f i 3 at₃ (length b₃) r (omega arith) (omega arith) e₃ in
    record {
      door = rest_at f t (2 + 33 * i) e 0 (2 + 33 * i) (omega arith);
      p₀ = x₀.place;
      p₁ = x₁.place;
      p₂ = x₂.place;
      p₃ = x₃.place;
      n₀ = x₀.size;
      n₁ = x₁.size;
      n₂ = x₂.size;
      n₃ = x₃.size;
      rest = ap (λ j. drop j f) k₄ ∙ x₃.rest;
    }

-- lengths
pub length_joined : (h : Handshake) → length (joined (bodies_of h)) ≡ size_of h
unfolding joined size_of
length_joined h =
    let b₀ = h.first in
    let b₁ = h.second in
    let b₂ = h.first_setting in
    let b₃ = h.second_setting in
    omega (arith, length-append b₀ (b₁ ++ (b₂ ++ (b₃ ++ []))), length-append b₁ (b₂ ++ (b₃ ++ [])), length-append b₂ (b₃ ++ []), length-append b₃ [])

pub bodies_length : (h : Handshake) (l : List Handshake) → length (all_bodies (h ∷ l)) ≡ size_of h + length (all_bodies l)
unfolding all_bodies
bodies_length h l = length-append (joined (bodies_of h)) (all_bodies l) ∙ ap (λ n. n + length (all_bodies l)) (length_joined h)

length_extents : (at : ℕ) (b : List ℕ) (l : List (List ℕ)) → length (extents at (b ∷ l)) ≡ 8 + length (extents (at + length b) l)
unfolding extents
length_extents at b l =
    omega (arith, length-append (big_endian 4 at) (big_endian 4 (length b) ++ extents (at + length b) l), length-append (big_endian 4 (length b)) (extents (at + length b) l), length_big 4 at, length_big 4 (length b))

no_extents : (at : ℕ) → length (extents at []) ≡ 0
unfolding extents
no_extents at = refl

four_extents : (at : ℕ) (h : Handshake) → length (extents at (bodies_of h)) ≡ 32
four_extents at h =
    let b₀ = h.first in
    let b₁ = h.second in
    let b₂ = h.first_setting in
    let b₃ = h.second_setting in
    length_extents at b₀ (b₁ ∷ b₂ ∷ b₃ ∷ [])
    ∙ (ap (λ n. 8 + n) (length_extents (at + length b₀) b₁ (b₂ ∷ b₃ ∷ [])
    ∙ ap (λ n. 8 + n) (length_extents (at + length b₀ + length b₁) b₂ (b₃ ∷ [])
    ∙ ap (λ n. 8 + n) (length_extents (at + length b₀ + length b₁ + length b₂) b₃ [] ∙ ap (λ n. 8 + n) (no_extents (at + length b₀ + length b₁ + length b₂ + length b₃))))))

length_entries : (at : ℕ) (l : List Handshake) → length (entries at l) ≡ 33 * length l
unfolding entries
length_entries at [] = refl
length_entries at (h ∷ l) =
    let again = length_entries (at + size_of h) l in
    omega (arith, length-append (extents at (bodies_of h)) (entries (at + size_of h) l), four_extents at h)

pub length_file : (l : List Handshake) → length (file_of l) ≡ contents_size (length l) + length (all_bodies l)
unfolding file_of contents_size
length_file l =
    let n = length l in
    omega (arith, length-append (big_endian 2 n) (entries (2 + 33 * n) l ++ all_bodies l), length-append (entries (2 + 33 * n) l) (all_bodies l), length_big 2 n, length_entries (2 + 33 * n) l)

-- the handshakes from the i-th on are read as they were written
record Read (f : List ℕ) (l : List Handshake) (i at : ℕ) : Type 0 where
  same : handshakes_from f (length l) i ≡ l
  none_past : any_from (any_body (is_past_end f)) (length l) i ≡ false
  none_misplaced : any_from (any_body (is_misplaced f)) (length l) i ≡ false
  ends : end_before f (i + length l) ≡ at + length (all_bodies l)

-- of one handshake
record One (f : List ℕ) (h : Handshake) (i at : ℕ) : Type 0 where
  is : handshake_in f i ≡ h
  past : any_body (is_past_end f) i ≡ false
  misplaced : any_body (is_misplaced f) i ≡ false
  after : end_before f (i + 1) ≡ at + size_of h

is_handshake : (f : List ℕ) (i : ℕ) (h : Handshake) → door_in f i ≡ h.door → body_in f i 0 ≡ h.first → body_in f i 1 ≡ h.second → body_in f i 2 ≡ h.first_setting
    → body_in f i 3 ≡ h.second_setting → handshake_in f i ≡ h
unfolding handshake_in
is_handshake f i h d a b c e = λ j. record { door = d j; first = a j; second = b j; first_setting = c j; second_setting = e j }

none_past_end : (f : List ℕ) (i : ℕ) → end_in f i 0 ≤ length f → end_in f i 1 ≤ length f → end_in f i 2 ≤ length f → end_in f i 3 ≤ length f → any_body (is_past_end f) i ≡ false
unfolding any_body is_past_end
none_past_end f i a b c d =
    let a' = le-ltb (length f) (end_in f i 0) a in
    let b' = le-ltb (length f) (end_in f i 1) b in
    let c' = le-ltb (length f) (end_in f i 2) c in
    let d' = le-ltb (length f) (end_in f i 3) d in
    λ j. a' j || (b' j || (c' j || d' j))

none_elsewhere : (f : List ℕ) (i : ℕ) → place_in f i 0 ≡ end_before f i → place_in f i 1 ≡ end_in f i 0 → place_in f i 2 ≡ end_in f i 1 → place_in f i 3 ≡ end_in f i 2 → any_body (is_misplaced f) i ≡ false
unfolding any_body is_misplaced expected
none_elsewhere f i a b c d =
    let a' = eq-eqb (place_in f i 0) (end_before f i) a in
    let b' = eq-eqb (place_in f i 1) (end_in f i 0) b in
    let c' = eq-eqb (place_in f i 2) (end_in f i 1) c in
    let d' = eq-eqb (place_in f i 3) (end_in f i 2) d in
    λ j. not (a' j) || (not (b' j) || (not (c' j) || not (d' j)))

end_after : (f : List ℕ) (i : ℕ) → end_before f (i + 1) ≡ end_in f i 3
unfolding end_before
end_after f i = ap (end_before f) (add-one i)

module _ (f : List ℕ) (i at : ℕ) (h : Handshake) (r q : List ℕ) (here : i < count_in f) (begins : at ≡ end_before f i) (fits : at + size_of h ≤ length f) (x : Entry f i at h r)
    (bodies : drop at f ≡ joined (bodies_of h) ++ q) where
  -- a body that stands from its place on
  body : (k p : ℕ) (b z : List ℕ) → k < 4 → place_in f i k ≡ p → length_in f i k ≡ length b → drop p f ≡ b ++ z → end_in f i k ≤ length f → body_in f i k ≡ b
  unfolding part
  body k p b z low ep en e w =
      body_is f i k here low w ∙ (ap₂ (λ j m. take m (drop j f)) ep en ∙ (ap (take (length b)) e ∙ take_at b z (length b) refl))

  one : One f h i at
  unfolding end_in size_of
  one =
      let b₀ = h.first in
      let b₁ = h.second in
      let b₂ = h.first_setting in
      let b₃ = h.second_setting in
      let at₁ = at + length b₀ in
      let at₂ = at₁ + length b₁ in
      let at₃ = at₂ + length b₂ in
      let w₀ : end_in f i 0 ≤ length f = omega (arith, x.p₀, x.n₀) in
      let w₁ : end_in f i 1 ≤ length f = omega (arith, x.p₁, x.n₁) in
      let w₂ : end_in f i 2 ≤ length f = omega (arith, x.p₂, x.n₂) in
      let w₃ : end_in f i 3 ≤ length f = omega (arith, x.p₃, x.n₃) in
      let d₀ : drop at f ≡ b₀ ++ (joined (b₁ ∷ b₂ ∷ b₃ ∷ []) ++ q) = bodies ∙ joined_then b₀ (b₁ ∷ b₂ ∷ b₃ ∷ []) q in
      let d₁ : drop at₁ f ≡ b₁ ++ (joined (b₂ ∷ b₃ ∷ []) ++ q) = behind at (length b₀) f b₀ (joined (b₁ ∷ b₂ ∷ b₃ ∷ []) ++ q) refl d₀ ∙ joined_then b₁ (b₂ ∷ b₃ ∷ []) q in
      let d₂ : drop at₂ f ≡ b₂ ++ (joined (b₃ ∷ []) ++ q) = behind at₁ (length b₁) f b₁ (joined (b₂ ∷ b₃ ∷ []) ++ q) refl d₁ ∙ joined_then b₂ (b₃ ∷ []) q in
      let d₃ : drop at₃ f ≡ b₃ ++ (joined [] ++ q) = behind at₂ (length b₂) f b₂ (joined (b₃ ∷ []) ++ q) refl d₂ ∙ joined_then b₃ [] q in
      let s₀ = body 0 at b₀ (joined (b₁ ∷ b₂ ∷ b₃ ∷ []) ++ q) (omega arith) x.p₀ x.n₀ d₀ w₀ in
      let s₁ = body 1 at₁ b₁ (joined (b₂ ∷ b₃ ∷ []) ++ q) (omega arith) x.p₁ x.n₁ d₁ w₁ in
      let s₂ = body 2 at₂ b₂ (joined (b₃ ∷ []) ++ q) (omega arith) x.p₂ x.n₂ d₂ w₂ in
      let s₃ = body 3 at₃ b₃ (joined [] ++ q) (omega arith) x.p₃ x.n₃ d₃ w₃ in
      let m₁ : place_in f i 1 ≡ place_in f i 0 + length_in f i 0 = omega (arith, x.p₀, x.n₀, x.p₁) in
      let m₂ : place_in f i 2 ≡ place_in f i 1 + length_in f i 1 = omega (arith, x.p₁, x.n₁, x.p₂) in
      let m₃ : place_in f i 3 ≡ place_in f i 2 + length_in f i 2 = omega (arith, x.p₂, x.n₂, x.p₃) in
      let last : place_in f i 3 + length_in f i 3 ≡ at + (length b₀ + length b₁ + length b₂ + length b₃) = omega (arith, x.p₃, x.n₃) in
      record {
        is = is_handshake f i h x.door s₀ s₁ s₂ s₃;
        past = none_past_end f i w₀ w₁ w₂ w₃;
        misplaced = none_elsewhere f i (x.p₀ ∙ begins) m₁ m₂ m₃;
        after = end_after f i ∙ last;
      }

module _ (f b : List ℕ) (small : length f ≤ 65536) where
  read : (l : List Handshake) (i at : ℕ) → i + length l ≡ count_in f → at ≡ end_before f i → at + length (all_bodies l) ≤ length f
      → drop (2 + 33 * i) f ≡ entries at l ++ b → drop at f ≡ all_bodies l → Read f l i at
  unfolding entries all_bodies handshakes_from any_from
  read [] i at n begins fits e d = record {
    same = refl;
    none_past = refl;
    none_misplaced = refl;
    ends = ap (end_before f) (add-zero i) ∙ (sym begins ∙ sym (add-zero at));
  }
  read (h ∷ l) i at n begins fits e d =
      let tail = entries (at + size_of h) l ++ b in
      let long = bodies_length h l in
      let x = entry f i at h tail (omega arith) (e ∙ ap (λ y. h.door ∷ y) (append_assoc (extents at (bodies_of h)) (entries (at + size_of h) l) b)) in
      let here : i < count_in f = omega arith in
      let o = one f i at h tail (all_bodies l) here begins (omega arith) x d in
      let again = read l (i + 1) (at + size_of h) (omega arith) (sym o.after) (omega arith) x.rest (behind at (size_of h) f (joined (bodies_of h)) (all_bodies l) (length_joined h) d) in
      let e₁ : i + suc (length l) ≡ i + 1 + length l = omega arith in
      let e₂ : at + size_of h + length (all_bodies l) ≡ at + length (all_bodies (h ∷ l)) = omega arith in
      record {
        same = ap₂ (λ y z. y ∷ z) o.is again.same;
        none_past = ap₂ (λ y z. y || z) o.past again.none_past;
        none_misplaced = ap₂ (λ y z. y || z) o.misplaced again.none_misplaced;
        ends = ap (end_before f) e₁ ∙ (again.ends ∙ e₂);
      }

module _ (l : List Handshake) (few : length l ≤ most_handshakes) (small : length (file_of l) ≤ most_file) where
  count_read : count_in (file_of l) ≡ length l
  unfolding count_in file_of
  count_read =
      let c : 256 < 256 ^ 2 = lit< tt in
      let h : length l < 256 ^ 2 = omega arith in
      number_stands 2 0 (length l) (file_of l) (entries (contents_size (length l)) l ++ all_bodies l) (omega arith) h refl

  entries_at : drop (2 + 33 * 0) (file_of l) ≡ entries (contents_size (length l)) l ++ all_bodies l
  unfolding file_of
  entries_at = behind 0 2 (file_of l) (big_endian 2 (length l)) (entries (contents_size (length l)) l ++ all_bodies l) (length_big 2 (length l)) refl

  bodies_at_lem : drop (contents_size (length l)) (file_of l) ≡ all_bodies l
  unfolding contents_size
  bodies_at_lem = behind 2 (33 * length l) (file_of l) (entries (2 + 33 * length l) l) (all_bodies l) (length_entries (2 + 33 * length l) l) entries_at

  whole : Read (file_of l) l 0 (contents_size (length l))
  unfolding end_before
  whole =
      let n : 0 + length l ≡ count_in (file_of l) = omega (arith, count_read) in
      read (file_of l) (all_bodies l) small l 0 (contents_size (length l)) n (ap contents_size (sym count_read)) (omega (arith, length_file l)) entries_at bodies_at_lem

  pub file_handshakes : handshakes_in (file_of l) ≡ l
  unfolding handshakes_in
  file_handshakes = ap (λ n. handshakes_from (file_of l) n 0) count_read ∙ whole.same

  pub file_not_refused : refused_first (file_of l) ≡ none
  unfolding refused_first refusal is_wrong_size has_rest
  file_not_refused =
      let f = file_of l in
      let c = count_read in
      let long = length_file l in
      let s₁ : ltb most_file (length f) ≡ false = le-ltb most_file (length f) small in
      let s₂ : ltb most_handshakes (count_in f) ≡ false = ap (ltb most_handshakes) c ∙ le-ltb most_handshakes (length l) few in
      let s₃ : ltb (length f) (contents_size (count_in f)) ≡ false = ap (λ n. ltb (length f) (contents_size n)) c ∙ le-ltb (length f) (contents_size (length l)) (omega arith) in
      let past : any_from (any_body (is_past_end f)) (count_in f) 0 ≡ false = ap (λ n. any_from (any_body (is_past_end f)) n 0) c ∙ whole.none_past in
      let elsewhere : any_from (any_body (is_misplaced f)) (count_in f) 0 ≡ false = ap (λ n. any_from (any_body (is_misplaced f)) n 0) c ∙ whole.none_misplaced in
      let zero_more : 0 + length l ≡ length l = omega arith in
      let end : end_before f (count_in f) ≡ contents_size (length l) + length (all_bodies l) = ap (end_before f) (c ∙ sym zero_more) ∙ whole.ends in
      let rest : ltb (end_before f (count_in f)) (length f) ≡ false = le-ltb (end_before f (count_in f)) (length f) (omega arith) in
      λ j. refusal ((s₁ j || (s₂ j || s₃ j), 18) ∷ (past j, 19) ∷ (elsewhere j || rest j, 20) ∷ [])

-- a list of at most 256 handshakes whose file is of size: 18, 19 and 20 do not apply to the file, and it is read as that list
pub handshakes_of_file : (l : List Handshake) → length l ≤ most_handshakes → length (file_of l) ≤ most_file → (refused_first (file_of l) ≡ none) × (handshakes_in (file_of l) ≡ l)
handshakes_of_file l few small = (file_not_refused l few small, file_handshakes l few small)
