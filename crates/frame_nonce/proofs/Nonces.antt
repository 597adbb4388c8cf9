-- Laws of the frame ID and the nonce: the loop that mixes them, byte by byte. Assumes nothing.
use Prim.Native.Nat.{ℕ, zero, suc, ◌+◌, ◌≤◌, ◌<◌}
use mathlib.Core.Path.{◌≡◌, refl, sym, ◌∙◌, ap}
use mathlib.Core.List.{List, [], ◌∷◌, ◌++◌, append-nil}
use native.Mathlib.Omega.{arith}
use native.Mathlib.Decide.{ℕ_discrete}
use borrow.Author.Tests.{eq-eqb, ne_eqb}
use lib.Bits.{bit_xor}
use lib.ListN.{length, get_or, set, length-set, drop_of_length-le}
use lib.Seq.{ext_get_or, get_or-set_same, get_or-set_other}
use Rattle.wire.specs.Bytes.{pasted}
use Rattle.wire.specs.ByteLaws.{pasted_fits}
use Rattle.wire.specs.Frame as wire
use Rattle.wire.specs.Frame.{frame_id, xor_bytes}
use Rattle.wire.specs.FrameLaws.{frame_id_twelve}
use Rattle.refusals.specs.Rows.{refusal}
use Rattle.frame_layout.specs.Outcome.{unless}
use Rattle.frame_layout.specs.Calls.{nonce, outcome}
use Rattle.frame_layout.specs.Answers.{nonce_told}
use Rattle.std.specs.Prelude.{Ok, Err}

-- bytes that fill a buffer
pub id_made : (s : List ℕ) (offset : ℕ) (t : List ℕ) → length s ≡ 12 → t ≡ pasted s 0 (frame_id offset) → t ≡ frame_id offset
id_made s offset t e p =
    let n = frame_id_twelve offset in
    p ∙ (pasted_fits s 0 (frame_id offset) (omega arith)
    ∙ (ap (λ l. frame_id offset ++ l) (drop_of_length-le s {i = 0 + length (frame_id offset)} (omega arith)) ∙ append-nil (frame_id offset)))

pub xor_length : (a b : List ℕ) → length a ≡ length b → length (xor_bytes a b) ≡ length a
unfolding xor_bytes
xor_length [] b e = refl
xor_length (x ∷ a) [] e = absurd (omega arith)
xor_length (x ∷ a) (y ∷ b) e = ap suc (xor_length a b (omega arith))

pub xor_at : (a b : List ℕ) (i : ℕ) → i < length a → i < length b → get_or (xor_bytes a b) i 0 ≡ bit_xor (get_or a i 0) (get_or b i 0)
unfolding xor_bytes
xor_at [] b i h l = absurd (omega arith)
xor_at (x ∷ a) [] i h l = absurd (omega arith)
xor_at (x ∷ a) (y ∷ b) zero h l = refl
xor_at (x ∷ a) (y ∷ b) (suc i) h l = xor_at a b i (omega arith) (omega arith)

-- the first i bytes of a frame ID are mixed with the fixed nonce
pub record Mixed (fixed id made : List ℕ) (i : ℕ) : Type 0 where
  pub size : length made ≡ 12
  pub within : i ≤ 12
  pub done : (j : ℕ) → j < i → get_or made j 0 ≡ bit_xor (get_or id j 0) (get_or fixed j 0)
  pub left : (j : ℕ) → i ≤ j → get_or made j 0 ≡ get_or id j 0

pub mixed_none : (fixed id made : List ℕ) → made ≡ id → length id ≡ 12 → Mixed fixed id made 0
mixed_none fixed id made p e = record { size = ap length p ∙ e; within = omega arith; done = λ j h. absurd (omega arith); left = λ j h. ap (λ l. get_or l j 0) p }

module _ (fixed id made : List ℕ) (i : ℕ) (m : Mixed fixed id made i) where
  pub mixed_more : i < 12 → Mixed fixed id (set made i (bit_xor (get_or made i 0) (get_or fixed i 0))) (i + 1)
  mixed_more h = record {
    size = length-set made i x ∙ m.size;
    within = omega arith;
    done = λ j l. elim (ℕ_discrete j i) [
      | yes e ↦ rw e (get_or-set_same made i x 0 (omega (arith, m.size)) ∙ ap (λ y. bit_xor y (get_or fixed i 0)) (m.left i (omega arith)))
      | no e ↦ get_or-set_other made i j x 0 e ∙ m.done j (omega arith)
    ];
    left = λ j l. get_or-set_other made i j x 0 (λ z. omega arith) ∙ m.left j (omega arith);
  }
    where
      x : ℕ
      x = bit_xor (get_or made i 0) (get_or fixed i 0)

module _ (fixed : List ℕ) (offset : ℕ) where
  pub nonce_unfit : (length fixed ≡ 12 → ⊥) → nonce_told (Err (record {})) ≡ outcome (nonce fixed offset)
  unfolding outcome unless refusal
  nonce_unfit h = rw (ne_eqb _ _ h)

  pub nonce_made : length fixed ≡ 12 → (made : List ℕ) (i : ℕ) → 12 ≤ i → Mixed fixed (frame_id offset) made i
      → nonce_told (Ok made) ≡ outcome (nonce fixed offset)
  unfolding outcome unless refusal wire.nonce
  nonce_made e made i h m =
      ap (λ l. nonce_told (Ok l)) whole ∙ (rw (eq-eqb _ _ e))
    where
      whole : made ≡ xor_bytes (frame_id offset) fixed
      whole =
          let n = frame_id_twelve offset in
          ext_get_or 0 made (xor_bytes (frame_id offset) fixed) (m.size ∙ sym (xor_length (frame_id offset) fixed (n ∙ sym e) ∙ n))
          (λ j l. let q : j < 12 = omega (arith, m.size) in m.done j (omega arith) ∙ sym (xor_at (frame_id offset) fixed j (omega arith) (omega arith)))
