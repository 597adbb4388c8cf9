-- Laws of bytes that are written one after another. Assumes nothing.
use Rattle.std.specs.Prelude.{ℕ, ◌+◌, ◌≤◌, ◌≡◌, refl, List, [], ◌++◌, Bool, true, false, cond, leb, length, take, drop}
use Rattle.std.proofs.Common.{sym, ◌∙◌, ap, ap₂, append-nil, add-zero, arith, length-append, take-append-drop}
use Rattle.wire.specs.Bytes.{pasted}
use Rattle.wire.specs.ByteLaws.{length_pasted, pasted_twice}
use Rattle.option_layout.specs.Puts.{Puts}

-- no bytes
pub puts_none : (s : List ℕ) (at : ℕ) → Puts s at [] s at
unfolding pasted
puts_none s at = record {
  bytes = go (leb at (length s)) ∙ ap (λ k. cond (leb k (length s)) (take at s ++ [] ++ drop k s) s) (sym (add-zero at));
  next = sym (add-zero at);
}
  where
    go : (b : Bool) → s ≡ cond b (take at s ++ [] ++ drop at s) s
    go true = sym (ap (λ l. l ++ drop at s) (append-nil (take at s)) ∙ take-append-drop at s)
    go false = refl

-- bytes after bytes
pub puts_both : (s u t v w : List ℕ) (at n m : ℕ) → at + length u + length v ≤ length s → Puts s at u t n → Puts t n v w m → Puts s at (u ++ v) w m
puts_both s u t v w at n m h p q = record {
  bytes = q.bytes ∙ (ap₂ (λ l k. pasted l k v) p.bytes p.next ∙ pasted_twice s u v at h);
  next = omega (arith, p.next, q.next, length-append u v);
}

pub puts_length : (s v t : List ℕ) (at n : ℕ) → Puts s at v t n → length t ≡ length s
puts_length s v t at n p = ap length p.bytes ∙ length_pasted s at v
