-- Laws of the layout: bits that are sent, the lengths that a frame may have, and three bytes written. Assumes nothing.
use Rattle.std.specs.Prelude.{ℕ, ◌/◌, ◌≤◌, ◌≡◌, refl, List, [], ◌∷◌, Bool, true, false, ◌||◌, ltb, length}
use Rattle.std.proofs.Common.{◌∙◌, ap, true≢false, arith, ltb-false}
use Rattle.wire.specs.Bytes.{pasted}
use Rattle.wire.specs.ByteLaws.{pasted_twice}
use Rattle.wire.specs.Number.{big_endian}
use Rattle.wire.specs.NumberLaws.{length_big}
use Rattle.frame_layout.specs.Layout.{bit0, bit1, control_sent, flags_sent, least_length, most_length, most_offset, next_offset, no_frame}

-- the bytes that are sent have the bits that were asked for
pub sent_rekey : (rekey : Bool) → bit0 (control_sent rekey) ≡ rekey
unfolding bit0 control_sent
sent_rekey true = refl
sent_rekey false = refl

pub sent_fin : (fin urg : Bool) → bit0 (flags_sent fin urg) ≡ fin
unfolding bit0 flags_sent
sent_fin true true = refl
sent_fin true false = refl
sent_fin false true = refl
sent_fin false false = refl

pub sent_urg : (fin urg : Bool) → bit1 (flags_sent fin urg) ≡ urg
unfolding bit1 flags_sent
sent_urg true true = refl
sent_urg true false = refl
sent_urg false true = refl
sent_urg false false = refl

-- and the others zero
pub control_reserved : (rekey : Bool) → control_sent rekey / 2 ≡ 0
unfolding control_sent
control_reserved true = refl
control_reserved false = refl

pub flags_reserved : (fin urg : Bool) → flags_sent fin urg / 4 ≡ 0
unfolding flags_sent
flags_reserved true true = refl
flags_reserved true false = refl
flags_reserved false true = refl
flags_reserved false false = refl

-- the length and the end of a frame
pub frame_fits : (offset clen : ℕ) → no_frame offset clen ≡ false → (17 ≤ clen) × (clen ≤ 65535) × (next_offset offset clen ≤ most_offset)
unfolding no_frame least_length most_length
frame_fits offset clen e = go (ltb clen 17) (ltb 65535 clen) (ltb most_offset (next_offset offset clen)) refl refl refl e
  where
    go : (a b c : Bool) → ltb clen 17 ≡ a → ltb 65535 clen ≡ b → ltb most_offset (next_offset offset clen) ≡ c → a || b || c ≡ false
        → (17 ≤ clen) × (clen ≤ 65535) × (next_offset offset clen ≤ most_offset)
    go true b c p q r z = absurd (true≢false z)
    go false true c p q r z = absurd (true≢false z)
    go false false true p q r z = absurd (true≢false z)
    go false false false p q r z = (ltb-false _ _ p, ltb-false _ _ q, ltb-false _ _ r)

-- a byte, then a number of two bytes
pub three_put : (s : List ℕ) (x y : ℕ) → 3 ≤ length s → (t u : List ℕ) → t ≡ pasted s 0 (x ∷ []) → u ≡ pasted t 1 (big_endian 2 y) → u ≡ pasted s 0 (x ∷ big_endian 2 y)
three_put s x y room t u p q =
    q ∙ (ap (λ l. pasted l 1 (big_endian 2 y)) p ∙ pasted_twice s (x ∷ []) (big_endian 2 y) 0 (omega (arith, length_big 2 y)))
