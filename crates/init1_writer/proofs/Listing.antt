-- Laws of the ciphers written one after another. Assumes nothing.
use Prim.Native.Nat.{ℕ, ◌+◌, ◌*◌, ◌≤◌, ◌<◌}
use mathlib.Core.Path.{◌≡◌, refl, sym, ◌∙◌, ap}
use mathlib.Core.List.{List, [], ◌∷◌, ◌++◌, append_assoc, append-nil}
use mathlib.Core.Bool.{Bool, true, false, cond}
use native.Mathlib.Nat.{add-zero}
use native.Mathlib.Numerals.{add-one}
use native.Mathlib.Omega.{arith}
use lib.Dec.{leb}
use lib.ListN.{length, get_or, take, drop, take-append-drop}
use lib.Seq.{take_all, take-suc, length-take-le}
use Rattle.wire.specs.Bytes.{pasted}
use Rattle.wire.specs.ByteLaws.{pasted_twice}
use Rattle.wire.specs.Number.{big_endian}
use Rattle.wire.specs.NumberLaws.{length_big}
use Rattle.init_layout.specs.Layout.{cipher_bytes}
use Rattle.init_layout.proofs.LayoutLaws.{length_ciphers}

-- no bytes
nothing_put : (s : List ℕ) (at : ℕ) → s ≡ pasted s at []
unfolding pasted
nothing_put s at = go (leb (at + 0) (length s))
  where
    go : (b : Bool) → s ≡ cond b (take at s ++ [] ++ drop (at + 0) s) s
    go true = sym (ap (λ l. l ++ drop (at + 0) s) (append-nil (take at s)) ∙ (ap (λ k. take at s ++ drop k s) (add-zero at) ∙ take-append-drop at s))
    go false = refl

-- the ciphers, one after another
ciphers_append : (a b : List ℕ) → cipher_bytes (a ++ b) ≡ cipher_bytes a ++ cipher_bytes b
unfolding cipher_bytes
ciphers_append [] b = refl
ciphers_append (x ∷ a) b = ap (λ l. big_endian 2 x ++ l) (ciphers_append a b) ∙ sym (append_assoc (big_endian 2 x) (cipher_bytes a) (cipher_bytes b))

ciphers_step : (l : List ℕ) (i : ℕ) → i < length l → cipher_bytes (take (i + 1) l) ≡ cipher_bytes (take i l) ++ big_endian 2 (get_or l i 0)
unfolding cipher_bytes
ciphers_step l i h =
    ap (λ k. cipher_bytes (take k l)) (add-one i)
    ∙ (ap cipher_bytes (take-suc l i 0 h)
    ∙ (ciphers_append (take i l) (get_or l i 0 ∷ []) ∙ ap (λ r. cipher_bytes (take i l) ++ r) (append-nil (big_endian 2 (get_or l i 0)))))

module _ (s l : List ℕ) (at : ℕ) where
  -- the first i ciphers are written
  pub record Put (t : List ℕ) (i : ℕ) : Type 0 where
    pub within : i ≤ length l
    pub bytes : t ≡ pasted s at (cipher_bytes (take i l))

  pub put_start : Put s 0
  unfolding cipher_bytes
  put_start = record { within = omega arith; bytes = nothing_put s at }

  module _ (t : List ℕ) (i : ℕ) (so_far : Put t i) where
    pub put_end : length l ≤ i → t ≡ pasted s at (cipher_bytes l)
    put_end h = so_far.bytes ∙ ap (λ m. pasted s at (cipher_bytes m)) (take_all i l h)

    pub put_next : at + 2 * length l ≤ length s → i < length l → (r : List ℕ) → r ≡ pasted t (at + 2 * i) (big_endian 2 (get_or l i 0)) → Put r (i + 1)
    put_next room h r e =
        let u = cipher_bytes (take i l) in
        let v = big_endian 2 (get_or l i 0) in
        let n : length (take i l) ≡ i = length-take-le i l (omega arith) in
        let k : at + 2 * i ≡ at + length u = omega (arith, length_ciphers (take i l)) in
        record {
          within = omega arith;
          bytes =
              e
              ∙ (ap (λ x. pasted x (at + 2 * i) v) so_far.bytes
              ∙ (ap (λ j. pasted (pasted s at u) j v) k
              ∙ (pasted_twice s u v at (omega (arith, length_ciphers (take i l), length_big 2 (get_or l i 0)))
              ∙ ap (pasted s at) (sym (ciphers_step l i h)))));
        }
