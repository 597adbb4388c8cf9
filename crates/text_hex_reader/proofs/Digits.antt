-- Digits, and bytes that are none, by what the reader of one digit answers. Assumes nothing.
use Rattle.std.proofs.Common.{◌≡◌, ℕ, ◌<◌, ◌≤◌, ◌/◌, ◌%◌, List, length, Option, Some, None, Bool, true, false, ltb, leb, eqb, refl, arith, sym}
use borrow.Author.Tests.{ltb-true, ltb-false, leb-true, leb-false, eqb-true, eqb-false}
use Rattle.wire.specs.Bytes.{same_bytes}
use Rattle.text_hex.specs.Hex.{dash, all_hex, at_most, bytes_said}
use Rattle.text_hex.specs.HexLaws.{says_empty, says_odd, says_more, says_wrong}
use Rattle.std.specs.Option.{is_none, unwrap_or, IfSome}
use Rattle.std.proofs.lemmas.Bool.{false≢true}

pub no_digit : (r : Option ℕ) (n : ℕ) → unwrap_or r 16 ≡ n → is_none r ≡ true → 15 < n
no_digit None n e t = omega arith
no_digit (Some x) n e t = absurd (false≢true t)

pub a_digit : (r : Option ℕ) (n : ℕ) → unwrap_or r 16 ≡ n → IfSome r (λ x. x < 16) → is_none r ≡ false → n ≤ 15
a_digit None n e h t = absurd (false≢true (sym t))
a_digit (Some x) n e h t = omega arith

pub digit_is : (r : Option ℕ) (n d : ℕ) → unwrap_or r 16 ≡ n → n ≤ 15 → d ≡ unwrap_or r 0 → d ≡ n
digit_is None n d e h k = omega arith
digit_is (Some x) n d e h k = omega arith

-- a word that is not pairs of digits, or says more bytes than there is room for
pub says_refused : (w : List ℕ) (n : ℕ) → same_bytes w dash ≡ false → (0 < length w → length w % 2 ≡ 0 → length w / 2 ≤ n → all_hex w ≡ true → ⊥) → at_most n (bytes_said w) ≡ None
says_refused w n other f = go (ltb 0 (length w)) (eqb (length w % 2) 0) (leb (length w / 2) n) (all_hex w) refl refl refl refl
  where
    go : (p q r t : Bool) → ltb 0 (length w) ≡ p → eqb (length w % 2) 0 ≡ q → leb (length w / 2) n ≡ r → all_hex w ≡ t → at_most n (bytes_said w) ≡ None
    go false q r t d e g h = let k = ltb-false 0 (length w) d in says_empty w n other (omega arith)
    go true false r t d e g h = says_odd w n other (ltb-true 0 (length w) d) (eqb-false (length w % 2) 0 e)
    go true true false t d e g h = let k = leb-false (length w / 2) n g in says_more w n other (ltb-true 0 (length w) d) (eqb-true (length w % 2) 0 e) (omega arith)
    go true true true false d e g h = says_wrong w n other (ltb-true 0 (length w) d) (eqb-true (length w % 2) 0 e) h
    go true true true true d e g h = absurd (f (ltb-true 0 (length w) d) (eqb-true (length w % 2) 0 e) (leb-true (length w / 2) n g) h)
