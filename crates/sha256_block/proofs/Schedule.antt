-- The loops of the message schedule and of the rounds, one law a turn. Assumes nothing.
use Prim.Native.Nat.{ℕ, ◌+◌, ◌-◌, ◌*◌, ◌%◌, ◌^◌, ◌≤◌, ◌<◌}
use mathlib.Core.Path.{◌≡◌, refl, sym, ◌∙◌, ap, ap₂}
use mathlib.Core.List.{List, [], ◌∷◌, ◌++◌}
use native.Mathlib.Omega.{arith}
use native.Mathlib.Numerals.{add-one}
use native.Mathlib.Nat.{add_assoc}
use borrow.Author.Tests.{lt-ltb, le-ltb, le-leb, lt-leb}
use lib.ListN.{length, get_or, take, drop, set, length-set}
use lib.Seq.{take-suc-set, get_or-take, get_or-drop, take-length}
use Rattle.hash_layout.specs.declared.Words.{Words}
use Rattle.hash_layout.specs.Constants.{k256}
use Rattle.sha256_block.specs.Blocks.{compressed_at}
use Rattle.hash_layout.specs.Sha256.{sigma0, sigma1, word, word_of, schedule, temp1, temp2, round_of, rounds, big_sigma0, big_sigma1, ch, maj, plus, compressed}

abbrev pub made : ℕ → ℕ → ℕ → ℕ → ℕ → ℕ → ℕ → ℕ → Words
made a b c d e f g h = record { a = a; b = b; c = c; d = d; e = e; f = f; g = g; h = h }

pub record Sched (b w : List ℕ) (t : ℕ) : Type 0 where
  pub long : length w ≡ 64
  pub words : take t w ≡ schedule b t

pub sched_start : (b w : List ℕ) → length w ≡ 64 → Sched b w 0
unfolding schedule
sched_start b w l = record { long = l; words = refl }

module _ (b w : List ℕ) (t x : ℕ) (s : Sched b w t) (h : t < 64) where
  pub sched_next : x ≡ word_of b t (take t w) → Sched b (set w t x) (t + 1)
  unfolding schedule
  sched_next e =
      record {
        long = simp length-set s.long;
        words =
            rw add-one (take-suc-set w t x (omega (arith, s.long))
            ∙ ap₂ (λ (l : List ℕ) (y : ℕ). l ++ (y ∷ [])) s.words (e ∙ ap (word_of b t) s.words));
      }

  pub sched_first : t < 16 → x ≡ word b t → Sched b (set w t x) (t + 1)
  unfolding word_of
  sched_first l e = sched_next (simp (lt-ltb t 16 l) e)

  pub sched_later : 16 ≤ t
      → x ≡ (sigma1 (get_or w (t - 2) 0) + get_or w (t - 7) 0 + sigma0 (get_or w (t - 15) 0) + get_or w (t - 16) 0) % 2 ^ 32
      → Sched b (set w t x) (t + 1)
  unfolding word_of
  sched_later l e =
      sched_next
      (simp (le-ltb t 16 l, get_or-take t w (t - 2) 0 (omega arith), get_or-take t w (t - 7) 0 (omega arith), get_or-take t w (t - 15) 0 (omega arith), get_or-take t w (t - 16) 0 (omega arith)) e)

pub sched_done : (b w : List ℕ) (t : ℕ) → Sched b w t → 64 ≤ t → t ≤ 64 → w ≡ schedule b 64
sched_done b w t s h l =
    let e : t ≡ 64 = omega arith in
    sym (take-length w) ∙ (ap (λ (n : ℕ). take n w) (s.long ∙ sym e) ∙ (s.words ∙ ap (schedule b) e))

-- a word of a part of a message
pub word_at : (m : List ℕ) (at t : ℕ) → t < 16
    → word (take 64 (drop at m)) t ≡ get_or m (at + t * 4) 0 * 2 ^ 24 + get_or m (at + t * 4 + 1) 0 * 2 ^ 16 + get_or m (at + t * 4 + 2) 0 * 2 ^ 8 + get_or m (at + t * 4 + 3) 0
unfolding word
word_at m at t h =
    simp (byte (t * 4) (omega arith), byte (t * 4 + 1) (omega arith), byte (t * 4 + 2) (omega arith), byte (t * 4 + 3) (omega arith), add_assoc)
  where
    byte : (i : ℕ) → i < 64 → get_or (take 64 (drop at m)) i 0 ≡ get_or m (at + i) 0
    byte i l = get_or-take 64 (drop at m) i 0 l ∙ get_or-drop at m i 0

-- sums modulo 2^32, one after the other
pub sum_five : (a b c d e : ℕ) → ((((a + b) % 2 ^ 32 + c) % 2 ^ 32 + d) % 2 ^ 32 + e) % 2 ^ 32 ≡ (a + b + c + d + e) % 2 ^ 32
sum_five a b c d e = omega arith

pub sum_four : (a b c d : ℕ) → (((a + b) % 2 ^ 32 + c) % 2 ^ 32 + d) % 2 ^ 32 ≡ (a + b + c + d) % 2 ^ 32
sum_four a b c d = omega arith

-- a round, from the values of its parts
pub round_made : (s : Words) (k w x1 x2 x3 x4 : ℕ) → x1 ≡ big_sigma1 s.e → x2 ≡ ch s.e s.f s.g → x3 ≡ big_sigma0 s.a → x4 ≡ maj s.a s.b s.c
    → made ((((((s.h + x1) % 2 ^ 32 + x2) % 2 ^ 32 + k) % 2 ^ 32 + w) % 2 ^ 32 + (x3 + x4) % 2 ^ 32) % 2 ^ 32) s.a s.b s.c ((s.d + ((((s.h + x1) % 2 ^ 32 + x2) % 2 ^ 32 + k) % 2 ^ 32 + w) % 2 ^ 32) % 2 ^ 32) s.e s.f s.g ≡ round_of s k w
unfolding round_of temp1 temp2
round_made s k w x1 x2 x3 x4 p1 p2 p3 p4 =
    let f1 : ((((s.h + x1) % 2 ^ 32 + x2) % 2 ^ 32 + k) % 2 ^ 32 + w) % 2 ^ 32 ≡ temp1 s k w = sum_five s.h x1 x2 k w ∙ ap₂ (λ (y z : ℕ). (s.h + y + z + k + w) % 2 ^ 32) p1 p2 in
    let f2 : (x3 + x4) % 2 ^ 32 ≡ temp2 s = ap₂ (λ (y z : ℕ). (y + z) % 2 ^ 32) p3 p4 in
    ap₂ (λ (y z : ℕ). made ((y + z) % 2 ^ 32) s.a s.b s.c ((s.d + y) % 2 ^ 32) s.e s.f s.g) f1 f2

pub rounds_start : (w : List ℕ) (h : Words) → h ≡ rounds w h 0
unfolding rounds
rounds_start w h = refl

pub rounds_next : (w : List ℕ) (h s r : Words) (t k : ℕ) → s ≡ rounds w h t → k ≡ get_or k256 t 0 → r ≡ round_of s k (get_or w t 0) → r ≡ rounds w h (t + 1)
unfolding rounds
rounds_next w h s r t k es ek er = rw add-one (er ∙ ap₂ (λ (x : Words) (y : ℕ). round_of x y (get_or w t 0)) es ek)

pub compress_done : (m w : List ℕ) (h s r : Words) (t : ℕ) → w ≡ schedule m 64 → s ≡ rounds w h t → t ≡ 64 → r ≡ plus h s → r ≡ compressed h m
unfolding compressed
compress_done m w h s r t ew es et er =
    er ∙ ap (plus h) (es ∙ ap₂ (λ (x : List ℕ) (n : ℕ). rounds x h n) ew et)

pub at_block : (h : Words) (m : List ℕ) (at : ℕ) (r : Words) → r ≡ compressed h (take 64 (drop at m)) → at + 64 ≤ length m → r ≡ compressed_at h m at
unfolding compressed_at
at_block h m at r e l = rw (le-leb (at + 64) (length m) l) e

pub at_none : (h : Words) (m : List ℕ) (at : ℕ) → length m < at + 64 → h ≡ compressed_at h m at
unfolding compressed_at
at_none h m at l = rw (lt-leb (at + 64) (length m) l)
