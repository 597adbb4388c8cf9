-- The running hash: what each step keeps, and what it comes to. Assumes nothing.
use Prim.Native.Nat.{ℕ, zero, suc, ◌+◌, ◌-◌, ◌*◌, ◌/◌, ◌%◌, ◌^◌, ◌≤◌, ◌<◌}
use mathlib.Core.Path.{◌≡◌, refl, sym, ◌∙◌, ap, ap₂, subst}
use mathlib.Core.List.{List, [], ◌∷◌, ◌++◌, append_assoc, append-nil}
use native.Mathlib.Omega.{arith}
use native.Mathlib.Numerals.{add-one}
use borrow.Author.Tests.{lt-ltb, le-ltb, le-leb}
use lib.ListN.{length, take, drop, replicate, length-append, length-drop, drop_of_length-le}
use lib.Seq.{paste, length-paste, take-paste, take-add, take-append-le, drop-append-le, length-take-le, take_all, drop_at}
use Rattle.wire.specs.Number.{big_endian}
use native.Mathlib.Nat.{div-one}
use Rattle.std.specs.Int.{to_be_bytes}
use Rattle.std.proofs.Common.{w64}
use Rattle.refusals.specs.Rows.{refusal}
use Rattle.hash_layout.specs.declared.Words.{Words}
use Rattle.hash_layout.specs.declared.TooLong.{TooLong}
use Rattle.std.specs.Prelude.{Result, Ok, Err}
use Rattle.hash_layout.specs.Constants.{initial}
use Rattle.hash_layout.specs.Sha256.{chained, compressed, padded, zeros, sha256, bytes_of}
use Rattle.hash_layout.specs.Outcome.{unless}
use Rattle.hash_layout.specs.Calls.{hash, longest, too_long, digest, outcome}
use Rattle.hash_layout.specs.Answers.{hash_told}
use Rattle.sha256_block.specs.Blocks.{compressed_at}
use Rattle.sha256.specs.Running.{State, Held, Begun, Adds, Stepped, Finished}

-- a block that stands in a message
at_is : (h : Words) (m : List ℕ) (at : ℕ) (g : Words) → g ≡ compressed_at h m at → at + 64 ≤ length m → g ≡ compressed h (take 64 (drop at m))
unfolding compressed_at
at_is h m at g e l = e ∙ (rw (le-leb (at + 64) (length m) l))

-- what follows a message's whole blocks does not change their hash value
pub chained_append : (m x : List ℕ) (i : ℕ) → i * 64 ≤ length m → chained (m ++ x) i ≡ chained m i
unfolding chained
chained_append m x zero h = refl
chained_append m x (suc i) h =
    ap₂ compressed (chained_append m x i (omega arith))
    (ap (take 64) (drop-append-le (i * 64) m x (omega arith)) ∙ take-append-le 64 (drop (i * 64) m) x (simp length-drop (omega arith)))

module _ (h : Words) (buf : List ℕ) (len : ℕ) (m : List ℕ) (s : Held h buf len m) where
  module _ (used k : ℕ) (x buf' : List ℕ) (u : used ≡ len % 64) (lx : k ≤ length x) (e : buf' ≡ paste buf used x k) where
    -- bytes that do not fill the block
    pub held_run : used + k < 64 → Held h buf' (len + k) (m ++ take k x)
    held_run l =
        let n : length (m ++ take k x) ≡ length m + k = length-append m (take k x) ∙ ap (λ (j : ℕ). length m + j) (length-take-le k x lx) in
        let q : (length m + k) / 64 ≡ length m / 64 = omega (arith, s.count) in
        let r : (length m + k) % 64 ≡ used + k = omega (arith, s.count) in
        let p : length m % 64 ≡ used = omega (arith, s.count) in
        record {
          long = ap length e ∙ (length-paste buf used x k (omega (arith, s.long)) lx ∙ s.long);
          count = rw n (omega (arith, s.count));
          value = rw (n, q) (s.value ∙ sym (chained_append m (take k x) (length m / 64) (omega arith)));
          rest =
              rw (n, q, r, e) (take-paste buf used x k (omega (arith, s.long)) lx
              ∙ (ap (λ (l : List ℕ). l ++ take k x) (ap (λ (j : ℕ). take j buf) (sym p) ∙ s.rest) ∙ sym (drop-append-le (length m / 64 * 64) m (take k x) (omega arith))));
        }

    -- bytes that fill the block
    pub held_full : (g : Words) → used + k ≡ 64 → g ≡ compressed h (take 64 buf') → Held g buf' (len + k) (m ++ take k x)
    unfolding chained
    held_full g l eg =
        let n : length (m ++ take k x) ≡ length m + k = length-append m (take k x) ∙ ap (λ (j : ℕ). length m + j) (length-take-le k x lx) in
        let lt : length (take k x) ≡ k = length-take-le k x lx in
        let q : (length m + k) / 64 ≡ suc (length m / 64) = omega (arith, s.count) in
        let r : (length m + k) % 64 ≡ 0 = omega (arith, s.count) in
        let p : length m % 64 ≡ used = omega (arith, s.count) in
        let block : take 64 buf' ≡ drop (length m / 64 * 64) m ++ take k x =
        ap₂ (λ (j : ℕ) (b : List ℕ). take j b) (sym l) e
        ∙ (take-paste buf used x k (omega (arith, s.long)) lx ∙ ap (λ (l : List ℕ). l ++ take k x) (ap (λ (j : ℕ). take j buf) (sym p) ∙ s.rest))
        in
        record {
          long = ap length e ∙ (length-paste buf used x k (omega (arith, s.long)) lx ∙ s.long);
          count = rw n (omega (arith, s.count));
          value =
              rw (n, q) (eg ∙ ap₂ compressed (s.value ∙ sym (chained_append m (take k x) (length m / 64) (omega arith)))
              (block ∙ (sym (take_all 64 (drop (length m / 64 * 64) m ++ take k x) (simp (length-append, length-drop) (omega arith)))
              ∙ ap (take 64) (sym (drop-append-le (length m / 64 * 64) m (take k x) (omega arith))))));
          rest = rw (n, q, r) (sym (drop_of_length-le (m ++ take k x) {i = suc (length m / 64) * 64} (rw n (omega arith))));
        }

  -- a whole block
  pub held_whole : (x : List ℕ) (g : Words) → len % 64 ≡ 0 → length x ≡ 64 → g ≡ compressed h x → Held g buf (len + 64) (m ++ x)
  unfolding chained
  held_whole x g l lx e =
      let n : length (m ++ x) ≡ length m + 64 = length-append m x ∙ ap (λ (k : ℕ). length m + k) lx in
      let q : (length m + 64) / 64 ≡ suc (length m / 64) = omega arith in
      let r : (length m + 64) % 64 ≡ 0 = omega (arith, s.count) in
      let z : length m / 64 * 64 ≡ length m = omega (arith, s.count) in
      record {
        long = s.long;
        count = rw n (omega (arith, s.count));
        value =
            rw (n, q) (e ∙ ap₂ compressed (s.value ∙ sym (chained_append m x (length m / 64) (omega arith)))
            (sym (take_all 64 x (omega arith)) ∙ ap (take 64) (sym (drop_at m x (length m / 64 * 64) (sym z)))));
        rest = rw (n, q, r) (sym (drop_of_length-le (m ++ x) {i = suc (length m / 64) * 64} (rw n (omega arith))));
      }

abbrev pub state : Words → ℕ → State
state h len = record { h = h; len = len }

pub adds_nothing : (s : State) (b : List ℕ) → Adds s b s b []
adds_nothing s b = record { count = omega arith; size = refl; holds = λ m h. rw append-nil h }

pub adds_then : (s t u : State) (b c d x y : List ℕ) → Adds s b t c x → Adds t c u d y → Adds s b u d (x ++ y)
adds_then s t u b c d x y p q =
    record {
      count = rw length-append (omega (arith, p.count, q.count));
      size = q.size ∙ p.size;
      holds = λ m h. rw append_assoc at (q.holds (m ++ x) (p.holds m h));
    }

module _ (s : State) (b part : List ℕ) (i : ℕ) where
  pub stepped_whole : (g : Words) → s.len % 64 ≡ 0 → i + 64 ≤ length part → g ≡ compressed_at s.h part i
      → Stepped s b part i (state g (s.len + 64)) b (i + 64)
  stepped_whole g l w e =
      let d : i + 64 - i ≡ 64 = omega arith in
      let n : length (take 64 (drop i part)) ≡ 64 = length-take-le 64 (drop i part) (simp length-drop (omega arith)) in
      record {
        onward = omega arith;
        within = w;
        adds =
            rw d (record {
              count = rw n refl;
              size = refl;
              holds = λ m h. held_whole s.h b s.len m h (take 64 (drop i part)) g l n (at_is s.h part i g e w);
            });
      }

  module _ (used k : ℕ) (c : List ℕ) (u : used ≡ s.len % 64) (pos : 0 < k) (w : i + k ≤ length part) (lb : length b ≡ 64) (e : c ≡ paste b used (drop i part) k) where
    lx : k ≤ length (drop i part)
    lx = simp length-drop (omega arith)

    same : used + k ≤ 64 → length c ≡ length b
    same l = ap length e ∙ length-paste b used (drop i part) k (omega arith) lx

    pub stepped_run : used + k < 64 → Stepped s b part i (state s.h (s.len + k)) c (i + k)
    stepped_run l =
        let d : i + k - i ≡ k = omega arith in
        record {
          onward = omega arith;
          within = w;
          adds =
              rw d (record {
                count = rw (length-take-le k (drop i part) lx) refl;
                size = same (omega arith);
                holds = λ m h. held_run s.h b s.len m h used k (drop i part) c u lx e l;
              });
        }

    pub stepped_full : (g : Words) → used + k ≡ 64 → g ≡ compressed_at s.h c 0 → Stepped s b part i (state g (s.len + k)) c (i + k)
    stepped_full g l eg =
        let d : i + k - i ≡ k = omega arith in
        let n = same (omega arith) in
        record {
          onward = omega arith;
          within = w;
          adds =
              rw d (record {
                count = rw (length-take-le k (drop i part) lx) refl;
                size = n;
                holds = λ m h. held_full s.h b s.len m h used k (drop i part) c u lx e g l (at_is s.h c 0 g eg (omega arith));
              });
        }

-- what a step counts
pub stepped_counts : (s r : State) (b c x : List ℕ) (i j : ℕ) → Stepped s b x i r c j → (r.len ≡ s.len + (j - i)) × (length c ≡ length b)
stepped_counts s r b c x i j p =
    let n : length (take (j - i) (drop i x)) ≡ j - i = length-take-le (j - i) (drop i x) (simp length-drop (omega (arith, p.within))) in
    (p.adds.count ∙ ap (λ (k : ℕ). s.len + k) n, p.adds.size)

-- a turn of the loop
pub adds_turn : (s r t : State) (b c d part : List ℕ) (i j : ℕ) → Adds s b r c (take i part) → Stepped r c part i t d j → Adds s b t d (take j part)
adds_turn s r t b c d part i j a p =
    let e : j ≡ i + (j - i) = omega (arith, p.onward) in
    subst (λ (l : List ℕ). Adds s b t d l) (sym (ap (λ (k : ℕ). take k part) e ∙ take-add i (j - i) part)) (adds_then s r t b c d (take i part) (take (j - i) (drop i part)) a p.adds)

pub adds_all : (s r : State) (b c part : List ℕ) (i : ℕ) → Adds s b r c (take i part) → length part ≤ i → Adds s b r c part
adds_all s r b c part i a h = subst (λ (l : List ℕ). Adds s b r c l) (take_all i part h) a

pub begun : (h : Words) → h ≡ initial → Begun (state h 0)
unfolding chained
begun h e = record { count = refl; holds = λ b l. record { long = l; count = refl; value = e; rest = refl } }

abbrev pub pad_block : List ℕ
pad_block = 0x80 ∷ replicate 63 0

take_zeros : (k n : ℕ) → k ≤ n → take {A = ℕ} k (replicate n 0) ≡ replicate k 0
take_zeros zero n h = refl
take_zeros (suc k) zero h = absurd (omega arith)
take_zeros (suc k) (suc n) h = ap (λ (l : List ℕ). 0 ∷ l) (take_zeros k n (omega arith))

pub pad_front : (k : ℕ) → k < 64 → take (k + 1) pad_block ≡ 0x80 ∷ replicate k 0
pad_front k h = rw add-one (ap (λ (l : List ℕ). 0x80 ∷ l) (take_zeros k 63 (omega arith)))

pub pad_long : (k : ℕ) → k < 64 → length (take (k + 1) pad_block) ≡ k + 1
pad_long k h = length-take-le (k + 1) pad_block (omega arith)

-- eight bytes, the highest first
pub be_eight : (x : ℕ) → to_be_bytes w64 x ≡ big_endian 8 x
unfolding big_endian
be_eight x = simp div-one

pub finished : (s t u : State) (b c d r x y : List ℕ) → Adds s b t c x → x ≡ 0x80 ∷ replicate (zeros s.len) 0 → Adds t c u d y → y ≡ big_endian 8 (s.len * 8) → r ≡ bytes_of u.h → Finished s b r
unfolding sha256 padded
finished s t u b c d r x y p ex q ey ed =
    record {
      digest =
          λ m h.
          let n : s.len ≡ length m = h.count in
          let e : m ++ (x ++ y) ≡ padded m = rw (ex, ey, n) in
          let a : Held u.h d u.len (padded m) = subst (λ (l : List ℕ). Held u.h d u.len l) e ((adds_then s t u b c d x y p q).holds m h) in
          ed ∙ ap bytes_of a.value;
    }

-- ---- what the calls give

abbrev pub made_of : List ℕ → Result (List ℕ) TooLong
made_of d = Ok d

abbrev pub no_hash : Result (List ℕ) TooLong
no_hash = Err (record {})

pub hash_made : (m d : List ℕ) → length m < 2 ^ 61 → d ≡ sha256 m → hash_told (made_of d) ≡ outcome (hash m)
unfolding outcome unless refusal too_long longest digest
hash_made m d l e = rw (le-ltb (2 ^ 61 - 1) (length m) (omega arith)) (ap (λ x. hash_told (made_of x)) e)

pub hash_long : (m : List ℕ) → 2 ^ 61 ≤ length m → hash_told no_hash ≡ outcome (hash m)
unfolding outcome unless refusal too_long longest
hash_long m l = rw (lt-ltb (2 ^ 61 - 1) (length m) (omega arith))

-- five parts, and what they come to
pub five_long : (a b c d e : List ℕ) → length (a ++ (b ++ (c ++ (d ++ e)))) ≡ length a + length b + length c + length d + length e
five_long a b c d e = rw (length-append a (b ++ (c ++ (d ++ e))), length-append b (c ++ (d ++ e)), length-append c (d ++ e), length-append d e) (omega arith)

-- they are too long, or not
pub five_over : (a b c d e : List ℕ) → 2 ^ 61 ≤ length a + length b + length c + length d + length e → hash_told no_hash ≡ outcome (hash (a ++ (b ++ (c ++ (d ++ e)))))
five_over a b c d e h =
    let l = five_long a b c d e in
    hash_long (a ++ (b ++ (c ++ (d ++ e)))) (omega arith)

pub five_fits : (a b c d e r : List ℕ) → length a + length b + length c + length d + length e < 2 ^ 61 → r ≡ sha256 (a ++ (b ++ (c ++ (d ++ e))))
    → hash_told (made_of r) ≡ outcome (hash (a ++ (b ++ (c ++ (d ++ e)))))
five_fits a b c d e r h er =
    let l = five_long a b c d e in
    hash_made (a ++ (b ++ (c ++ (d ++ e)))) r (omega arith) er

pub five_made : (s0 s1 s2 s3 s4 s5 : State) (b0 b1 b2 b3 b4 b5 a b c d e r : List ℕ) → Begun s0 → length b0 ≡ 64
    → Adds s0 b0 s1 b1 a → Adds s1 b1 s2 b2 b → Adds s2 b2 s3 b3 c → Adds s3 b3 s4 b4 d → Adds s4 b4 s5 b5 e → Finished s5 b5 r → r ≡ sha256 (a ++ (b ++ (c ++ (d ++ e))))
five_made s0 s1 s2 s3 s4 s5 b0 b1 b2 b3 b4 b5 a b c d e r g l p1 p2 p3 p4 p5 f =
    let q4 = adds_then s3 s4 s5 b3 b4 b5 d e p4 p5 in
    let q3 = adds_then s2 s3 s5 b2 b3 b5 c (d ++ e) p3 q4 in
    let q2 = adds_then s1 s2 s5 b1 b2 b5 b (c ++ (d ++ e)) p2 q3 in
    let q1 = adds_then s0 s1 s5 b0 b1 b5 a (b ++ (c ++ (d ++ e))) p1 q2 in
    f.digest (a ++ (b ++ (c ++ (d ++ e)))) (q1.holds [] (g.holds b0 l))

pub hash_one : (m : List ℕ) (r : Result (List ℕ) TooLong) → hash_told r ≡ outcome (hash (m ++ ([] ++ ([] ++ ([] ++ []))))) → hash_told r ≡ outcome (hash m)
hash_one m r e = rw append-nil at e
