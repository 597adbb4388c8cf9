-- Fields of a list of bytes: found where they stand, and the whole list as its parts in a row. Assumes nothing.
use Rattle.std.specs.Prelude.{ℕ, zero, suc, ◌+◌, ◌*◌, ◌≤◌, ◌<◌, ◌^◌, ◌≡◌, refl, List, [], ◌∷◌, ◌++◌, length, get_or, take, drop}
use Rattle.std.proofs.Common.{sym, ◌∙◌, ap, ap₂, arith, length-append, length-drop, take-append-drop, take_at, drop_at, drop-drop}
use Rattle.std.proofs.lemmas.List.{take-append-le, drop-append-le}
use Rattle.wire.specs.Bytes.{Bytes, bytes_from, part}
use Rattle.wire.specs.ByteLaws.{bytes_from_part, bytes_from_bytes, length_bytes_from}
use Rattle.wire.specs.Number.{big_endian, number, number_at}
use Rattle.wire.specs.NumberLaws.{length_big, number_big_whole, big_number, number_at_lt}
use Rattle.init_layout.specs.Layout.{cipher_bytes, Ciphers}
use Rattle.init_layout.specs.Reading.{ciphers_at}

-- a field after the bytes before it
pub field_at : (a v r : List ℕ) (i n : ℕ) → length a ≡ i → length v ≡ n → bytes_from n (a ++ (v ++ r)) i ≡ v
unfolding part
field_at a v r i n p q =
    bytes_from_part n (a ++ (v ++ r)) i (omega (arith, length-append a (v ++ r), length-append v r))
    ∙ (ap (take n) (drop_at a (v ++ r) i p) ∙ take_at v r n q)

-- a number of w bytes after the bytes before it
pub number_field : (a r : List ℕ) (i w x : ℕ) → length a ≡ i → x < 256 ^ w → number_at w (a ++ (big_endian w x ++ r)) i ≡ x
unfolding number_at
number_field a r i w x p h = ap number (field_at a (big_endian w x) r i w p (length_big w x)) ∙ number_big_whole w x h

-- a number is settled once its bytes are at hand
pub number_settled : (w i : ℕ) (p q : List ℕ) → i + w ≤ length p → number_at w (p ++ q) i ≡ number_at w p i
unfolding number_at part
number_settled w i p q h =
    ap number
    (bytes_from_part w (p ++ q) i (omega (arith, length-append p q))
    ∙ (ap (take w) (drop-append-le i p q (omega arith))
    ∙ (take-append-le w (drop i p) q (omega (arith, length-drop i p)) ∙ sym (bytes_from_part w p i h))))

-- the bytes of a number that stands at a place
pub number_bytes : (w i : ℕ) (p : List ℕ) → Bytes p → big_endian w (number_at w p i) ≡ bytes_from w p i
unfolding number_at
number_bytes w i p b =
    ap (λ n. big_endian n (number (bytes_from w p i))) (sym (length_bytes_from w p i)) ∙ big_number (bytes_from w p i) (bytes_from_bytes w p i b)

-- bytes, and those after them
pub cut : (i n : ℕ) (p : List ℕ) → drop i p ≡ part i n p ++ drop (i + n) p
unfolding part
cut i n p = sym (ap (λ l. take n (drop i p) ++ l) (sym (drop-drop n i p)) ∙ take-append-drop n (drop i p))

-- two bytes a cipher
two_more : (n : ℕ) → 2 * suc n ≡ suc (suc (2 * n))
two_more n = omega arith

place_two : (i : ℕ) → i + 1 + 1 ≡ i + 2
place_two i = omega arith

pub ciphers_back : (l p : List ℕ) (i : ℕ) → Ciphers l → bytes_from (2 * length l) p i ≡ cipher_bytes l → ciphers_at (length l) p i ≡ l
unfolding ciphers_at cipher_bytes bytes_from big_endian number_at
ciphers_back [] p i c e = refl
ciphers_back (x ∷ l) p i c e =
    let f : get_or p i 0 ∷ (get_or p (i + 1) 0 ∷ bytes_from (2 * length l) p (i + 1 + 1)) ≡ big_endian 2 x ++ cipher_bytes l = ap (λ n. bytes_from n p i) (sym (two_more (length l))) ∙ e in
    ap₂ (λ y m. y ∷ m)
    (ap (λ m. number (take 2 m)) f ∙ number_big_whole 2 x c.0)
    (ciphers_back l p (i + 2) c.1 (ap (λ k. bytes_from (2 * length l) p k) (sym (place_two i)) ∙ ap (drop 2) f))

pub ciphers_bytes : (n : ℕ) (p : List ℕ) (i : ℕ) → Bytes p → cipher_bytes (ciphers_at n p i) ≡ bytes_from (2 * n) p i
unfolding ciphers_at cipher_bytes bytes_from
ciphers_bytes zero p i b = refl
ciphers_bytes (suc n) p i b =
    ap₂ (λ u v. u ++ v) (number_bytes 2 i p b) (ciphers_bytes n p (i + 2) b ∙ ap (λ k. bytes_from (2 * n) p k) (sym (place_two i)))
    ∙ ap (λ k. bytes_from k p i) (sym (two_more n))

pub length_ciphers_at : (n : ℕ) (p : List ℕ) (i : ℕ) → length (ciphers_at n p i) ≡ n
unfolding ciphers_at
length_ciphers_at zero p i = refl
length_ciphers_at (suc n) p i = ap suc (length_ciphers_at n p (i + 2))

pub ciphers_small : (n : ℕ) (p : List ℕ) (i : ℕ) → Bytes p → Ciphers (ciphers_at n p i)
unfolding ciphers_at
ciphers_small zero p i b = tt
ciphers_small (suc n) p i b = (number_at_lt 2 p i b, ciphers_small n p (i + 2) b)
