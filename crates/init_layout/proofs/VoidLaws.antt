-- Void ciphers among the bytes at hand: with fewer bytes, with ones behind them, and of a whole list. Assumes nothing.
use Rattle.std.specs.Prelude.{ℕ, zero, suc, ◌+◌, ◌*◌, ◌-◌, ◌≤◌, ◌<◌, ◌≡◌, refl, List, [], ◌∷◌, ◌++◌, Bool, true, false, ◌&&◌, ◌||◌, eqb, length, get_or}
use Rattle.std.proofs.Common.{sym, ◌∙◌, arith, length-append, get_or-append-add}
use Rattle.std.proofs.Math.Path.{ap}
use Rattle.std.proofs.lemmas.Bool.{false≢true}
use Rattle.std.proofs.Math.Decide.{dec_lt}
use borrow.Author.Tests.{lt-ltb, le-ltb, eqb-false, ne_eqb}
use Rattle.std.proofs.lemmas.List.{length-replicate, get_or-replicate}
use Rattle.std.proofs.Math.ListN.{get_or-eq_default, get_or-append}
use Rattle.wire.specs.Bytes.{bytes_from}
use Rattle.wire.specs.Number.{number, number_after, number_at}
use Rattle.eno.specs.Option.{is_listed}
use Rattle.init_layout.specs.Layout.{Init, init1, init2, is_void}
use Rattle.init_layout.specs.Reading.{count_at, ciphers_from, nonce_from, void_from, void_at, ciphers_at}
use Rattle.init_layout.proofs.FieldLaws.{number_settled}
use Rattle.init_layout.specs.VoidLaws.{ones}

-- neither of two tests
pub or_false : (a b : Bool) → a || b ≡ false → (a ≡ false) × (b ≡ false)
or_false true b e = absurd (false≢true (sym e))
or_false false b e = (refl, e)

-- a cipher of which a byte is missing, and one that is at hand
module _ (n i : ℕ) (p : List ℕ) where
  pub void_at_lem : i + 1 < length p → void_from (suc n) p i ≡ eqb (number_at 2 p i) 0 || void_from n p (i + 2)
  unfolding void_from
  void_at_lem h = ap (λ b. b && (eqb (number_at 2 p i) 0 || void_from n p (i + 2))) (lt-ltb (i + 1) (length p) h)

pub void_past : (n i : ℕ) (p : List ℕ) → length p ≤ i + 1 → void_from n p i ≡ false
unfolding void_from
void_past zero i p h = refl
void_past (suc n) i p h = ap (λ b. b && (eqb (number_at 2 p i) 0 || void_from n p (i + 2))) (le-ltb (i + 1) (length p) h)

module _ (n i : ℕ) (p : List ℕ) where
  clear_both : i + 1 < length p → void_from (suc n) p i ≡ false → (number_at 2 p i ≡ 0 → ⊥) × (void_from n p (i + 2) ≡ false)
  clear_both h e =
      let q = or_false (eqb (number_at 2 p i) 0) (void_from n p (i + 2)) (sym (void_at_lem n i p h) ∙ e) in
      (eqb-false (number_at 2 p i) 0 q.0, q.1)

  clear_next : (i + 1 < length p → number_at 2 p i ≡ 0 → ⊥) → void_from n p (i + 2) ≡ false → void_from (suc n) p i ≡ false
  clear_next h e = elim (dec_lt (i + 1) (length p)) [
    | yes k ↦ void_at_lem n i p k ∙ (ap (λ b. b || void_from n p (i + 2)) (ne_eqb (number_at 2 p i) 0 (h k)) ∙ e)
    | no k ↦ void_past (suc n) i p (omega arith)
  ]

-- with fewer bytes nothing more is void
from_less : (n i : ℕ) (p q : List ℕ) → void_from n (p ++ q) i ≡ false → void_from n p i ≡ false
unfolding void_from
from_less zero i p q e = refl
from_less (suc n) i p q e = elim (dec_lt (i + 1) (length p)) [
  | yes h ↦ let c = clear_both n i (p ++ q) (omega (arith, length-append p q)) e in
      clear_next n i p (λ _ z. c.0 (number_settled 2 i p q (omega arith) ∙ z)) (from_less n (i + 2) p q c.1)
  | no h ↦ void_past (suc n) i p (omega arith)
]

pub are_ones : (k : ℕ) → length (ones k) ≡ k
unfolding ones
are_ones k = length-replicate k 1

get_d_ones : (p : List ℕ) (k j : ℕ) → get_or (p ++ ones k) j 1 ≡ get_or p j 1
unfolding ones
get_d_ones [] zero j = refl
get_d_ones [] (suc k) zero = refl
get_d_ones [] (suc k) (suc j) = get_d_ones [] k j
get_d_ones (x ∷ p) k zero = refl
get_d_ones (x ∷ p) k (suc j) = get_d_ones p k j

one_at : (p : List ℕ) (k j : ℕ) → length p ≤ j → j < length (p ++ ones k) → get_or (p ++ ones k) j 0 ≡ 1
unfolding ones
one_at p k j h l =
    let e : length p + (j - length p) ≡ j = omega arith in
    let s : j - length p < k = omega (arith, length-append p (ones k), are_ones k) in
    ap (λ x. get_or (p ++ ones k) x 0) (sym e) ∙ (get_or-append-add p (ones k) (j - length p) 0 ∙ get_or-replicate k (j - length p) 1 0 s)

two_bytes : (p : List ℕ) (i : ℕ) → number_at 2 p i ≡ get_or p i 0 * 256 + get_or p (i + 1) 0
unfolding number_at number number_after bytes_from
two_bytes p i = omega arith

from_ones : (n i k : ℕ) (p : List ℕ) → void_from n p i ≡ false → void_from n (p ++ ones k) i ≡ false
unfolding void_from
from_ones zero i k p e = refl
from_ones (suc n) i k p e = elim (dec_lt (i + 1) (length p)) [
  | yes h ↦ let c = clear_both n i p h e in
      clear_next n i (p ++ ones k) (λ _ z. c.0 (sym (number_settled 2 i p (ones k) (omega arith)) ∙ z)) (from_ones n (i + 2) k p c.1)
  | no h ↦ clear_next n i (p ++ ones k) (λ l z. omega (arith, two_bytes (p ++ ones k) i, one_at p k (i + 1) (omega arith) l))
      (from_ones n (i + 2) k p (void_past n (i + 2) p (omega arith)))
]

-- of a list that is all at hand
from_whole : (n i : ℕ) (p : List ℕ) → i + 2 * n ≤ length p → void_from n p i ≡ is_void (ciphers_at n p i)
unfolding void_from is_void is_listed ciphers_at
from_whole zero i p h = refl
from_whole (suc n) i p h = void_at_lem n i p (omega arith) ∙ ap (λ b. eqb (number_at 2 p i) 0 || b) (from_whole n (i + 2) p (omega arith))

pub void_whole : (i : Init) (p : List ℕ) → nonce_from i (count_at i p) ≤ length p
    → void_from (count_at i p) p (ciphers_from i) ≡ is_void (ciphers_at (count_at i p) p (ciphers_from i))
unfolding nonce_from
void_whole i p h = from_whole (count_at i p) (ciphers_from i) p h

-- a message's list: it has a cipher, and none of those at hand is 0000
module _ (i : Init) (p : List ℕ) where
  pub clear_some : void_at i p ≡ false → count_at i p ≡ 0 → ⊥
  unfolding void_at
  clear_some e = eqb-false (count_at i p) 0 (or_false (eqb (count_at i p) 0) (void_from (count_at i p) p (ciphers_from i)) e).0

  pub clear_from : void_at i p ≡ false → void_from (count_at i p) p (ciphers_from i) ≡ false
  unfolding void_at
  clear_from e = (or_false (eqb (count_at i p) 0) (void_from (count_at i p) p (ciphers_from i)) e).1

  pub clear_of : (count_at i p ≡ 0 → ⊥) → void_from (count_at i p) p (ciphers_from i) ≡ false → void_at i p ≡ false
  unfolding void_at
  clear_of h e = ap (λ b. b || void_from (count_at i p) p (ciphers_from i)) (ne_eqb (count_at i p) 0 h) ∙ e

-- before the count is at hand nothing is void
count_short : (i : Init) (p : List ℕ) → length p ≤ 8 → count_at i p ≡ 1
unfolding count_at
count_short init1 p h = get_or-eq_default p 1 {n = 8} h
count_short init2 p h = refl

pub from_eight : (i : Init) → 8 ≤ ciphers_from i
unfolding ciphers_from
from_eight init1 = omega arith
from_eight init2 = omega arith

pub clear_short : (i : Init) (p : List ℕ) → length p ≤ 8 → void_at i p ≡ false
clear_short i p h = clear_of i p (λ e. omega (arith, count_short i p h)) (void_past (count_at i p) (ciphers_from i) p (omega (arith, from_eight i)))

-- fewer bytes
pub count_settled : (i : Init) (p q : List ℕ) → 8 < length p → count_at i (p ++ q) ≡ count_at i p
unfolding count_at
count_settled init1 p q h = get_or-append p q 1 8 h
count_settled init2 p q h = refl

module _ (i : Init) (p q : List ℕ) (e : void_at i (p ++ q) ≡ false) where
  pub clear_less : void_at i p ≡ false
  clear_less = elim (dec_lt 8 (length p)) [
    | yes h ↦ let c = count_settled i p q h in
        clear_of i p (λ z. clear_some i (p ++ q) e (c ∙ z))
        (from_less (count_at i p) (ciphers_from i) p q (ap (λ n. void_from n (p ++ q) (ciphers_from i)) (sym c) ∙ clear_from i (p ++ q) e))
    | no h ↦ clear_short i p (omega arith)
  ]

  pub count_less : count_at i p ≤ count_at i (p ++ q)
  count_less = elim (dec_lt 8 (length p)) [
    | yes h ↦ omega (arith, count_settled i p q h)
    | no h ↦ let s = clear_some i (p ++ q) e in omega (arith, count_short i p (omega arith))
  ]

-- ones behind
pub count_ones : (i : Init) (p : List ℕ) (k : ℕ) → count_at i (p ++ ones k) ≡ count_at i p
unfolding count_at
count_ones init1 p k = get_d_ones p k 8
count_ones init2 p k = refl

pub clear_ones : (i : Init) (p : List ℕ) (k : ℕ) → void_at i p ≡ false → void_at i (p ++ ones k) ≡ false
clear_ones i p k e =
    let c = count_ones i p k in
    clear_of i (p ++ ones k) (λ z. clear_some i p e (sym c ∙ z))
    (ap (λ n. void_from n (p ++ ones k) (ciphers_from i)) c ∙ from_ones (count_at i p) (ciphers_from i) k p (clear_from i p e))
