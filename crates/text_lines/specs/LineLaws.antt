-- Laws of the loop that collects a line. Assumes nothing.
use Rattle.std.specs.Prelude.{ℕ, ◌+◌, ◌-◌, ◌≤◌, ◌<◌, min, ◌≡◌, refl, List, ◌∷◌, ◌++◌, Bool, true, false, ltb, set}
use Rattle.std.proofs.Math.Path.{sym, ap, ap₂}
use Rattle.std.proofs.Common.{◌∙◌, add-one, length-set, take-append-drop, drop_of_length-le, drop-cons, drop-drop, take_all, take-suc-set, drop-set-lt, length-take-le}
use native.Mathlib.Omega.{arith}
use borrow.Author.Tests.{eq-eqb, ne_eqb, lt-ltb, le-ltb, ltb-true, ltb-false}
use Rattle.std.proofs.Math.ListN.{length, get_or, take, drop, get_or-eq_default}
use Rattle.wire.specs.Bytes.{pasted}
use Rattle.wire.specs.ByteLaws.{pasted_fits}
use Rattle.text_lines.specs.Line.{Line, newline, carriage_return, grown, longer, line_of, without_return}

-- one byte more is kept in a buffer: its first bytes are the line's, the others are as they were
pub record Pushed (line₀ : List ℕ) (n x : ℕ) (line : List ℕ) (r : ℕ) : Type 0 where
  pub kept : take r line ≡ grown (length line₀) (take n line₀) x
  pub left : drop r line ≡ drop r line₀
  pub same : length line ≡ length line₀
  pub onward : n ≤ r
  pub within : r ≤ length line₀

pub longer_room : (m n : ℕ) (long : Bool) → n < m → long ≡ longer m n long
unfolding longer
longer_room m n long h = simp (lt-ltb n m h)

pub longer_full : (m n : ℕ) (long : Bool) → m ≤ n → true ≡ longer m n long
unfolding longer
longer_full m n long h = simp (le-ltb n m h)

pub pushed_full : (line : List ℕ) (n x : ℕ) → n ≤ length line → length line ≤ n → Pushed line n x line n
unfolding grown
pushed_full line n x h k =
    let e = length-take-le n line h in
    record {
      kept = simp (le-ltb (length (take n line)) (length line) (omega arith));
      left = refl;
      same = refl;
      onward = omega arith;
      within = h;
    }

pub pushed_more : (line : List ℕ) (n x : ℕ) → n < length line → Pushed line n x (set line n x) (n + 1)
unfolding grown
pushed_more line n x h =
    let e = length-take-le n line (omega arith) in
    record {
      kept = ap (λ i. take i (set line n x)) (add-one n) ∙ (take-suc-set line n x h ∙ simp (lt-ltb (length (take n line)) (length line) (omega arith)));
      left = drop-set-lt (n + 1) line n x (omega arith);
      same = length-set line n x;
      onward = omega arith;
      within = omega arith;
    }

-- the line that is being collected, of which n bytes stand in the buffer
pub record Collecting (whole : Line) (line₀ : List ℕ) (chunk : List ℕ) (i : ℕ) (line : List ℕ) (n : ℕ) (long : Bool) : Type 0 where
  pub rest : line_of (length line₀) (take n line) long i (drop i chunk) ≡ whole
  pub left : drop n line ≡ drop n line₀
  pub same : length line ≡ length line₀
  pub within : n ≤ length line₀

take_min : (n : ℕ) (s : List ℕ) → take (min n (length s)) s ≡ take n s
take_min n s = go (ltb (length s) n) refl
  where
    go : (t : Bool) → ltb (length s) n ≡ t → take (min n (length s)) s ≡ take n s
    go true e = let h = ltb-true (length s) n e in let z : min n (length s) ≡ length s = omega arith in ap (λ k. take k s) z ∙ (take_all (length s) s (omega arith) ∙ sym (take_all n s (omega arith)))
    go false e = let h = ltb-false (length s) n e in let z : min n (length s) ≡ n = omega arith in ap (λ k. take k s) z

module _ (line₀ chunk : List ℕ) (from before : ℕ) (long₀ : Bool) where
  abbrev whole_line : Line
  whole_line = line_of (length line₀) (take before line₀) long₀ from (drop from chunk)

  pub collecting_start : (n : ℕ) → n ≡ min before (length line₀) → Collecting whole_line line₀ chunk from line₀ n long₀
  collecting_start n e =
      record {
        rest = ap (λ l. line_of (length line₀) l long₀ from (drop from chunk)) (ap (λ k. take k line₀) e ∙ take_min before line₀);
        left = refl;
        same = refl;
        within = omega arith;
      }

module _ (whole : Line) (line₀ chunk : List ℕ) (i : ℕ) (line : List ℕ) (n : ℕ) (long : Bool) (c : Collecting whole line₀ chunk i line n long) where
  next_is : i < length chunk → drop i chunk ≡ get_or chunk i 0 ∷ drop (i + 1) chunk
  next_is h = rw add-one (drop-cons chunk i 0 h)

  pub counted : length (take n line) ≡ n
  counted = length-take-le n line (omega (arith, c.same, c.within))

  pub collecting_more : i < length chunk → (get_or chunk i 0 ≡ newline → ⊥) → (more : Bool) → more ≡ longer (length line₀) n long
      → (line' : List ℕ) (r : ℕ) → Pushed line n (get_or chunk i 0) line' r → Collecting whole line₀ chunk (i + 1) line' r more
  unfolding line_of
  collecting_more h d more e line' r p =
      record {
        rest =
            ap₂ (λ l b. line_of (length line₀) l b (i + 1) (drop (i + 1) chunk)) (p.kept ∙ ap (λ m. grown m (take n line) (get_or chunk i 0)) c.same)
            (e ∙ ap (λ k. longer (length line₀) k long) (sym counted))
            ∙ (sym (ap (line_of (length line₀) (take n line) long i) (next_is h) ∙ simp (ne_eqb _ _ d)) ∙ c.rest);
        left = p.left ∙ drop_more;
        same = p.same ∙ c.same;
        within = omega (arith, p.within, c.same);
      }
    where
      drop_more : drop r line ≡ drop r line₀
      drop_more =
          let z : n + (r - n) ≡ r = omega (arith, p.onward) in
          ap (λ k. drop k line) (sym z)
          ∙ (sym (drop-drop (r - n) n line) ∙ (ap (drop (r - n)) c.left ∙ (drop-drop (r - n) n line₀ ∙ ap (λ k. drop k line₀) z)))

  pub collecting_line : i < length chunk → get_or chunk i 0 ≡ newline → whole ≡ record { kept = take n line; long = long; whole = true; next = i + 1 }
  unfolding line_of
  collecting_line h e = sym (sym (ap (line_of (length line₀) (take n line) long i) (next_is h) ∙ simp (eq-eqb _ _ e)) ∙ c.rest)

  pub collecting_end : length chunk ≤ i → whole ≡ record { kept = take n line; long = long; whole = false; next = i }
  unfolding line_of
  collecting_end h = sym c.rest ∙ ap (line_of (length line₀) (take n line) long i) (drop_of_length-le chunk {i = i} h)

  pub collecting_bytes : line ≡ pasted line₀ 0 (take n line)
  collecting_bytes =
      let z : 0 + length (take n line) ≡ n = omega (arith, counted) in
      sym (pasted_fits line₀ 0 (take n line) (omega (arith, counted, c.within))
      ∙ (ap (λ k. take n line ++ drop k line₀) z ∙ (ap (λ l. take n line ++ l) (sym c.left) ∙ take-append-drop n line)))

module _ (s : List ℕ) where
  pub without_none : length s ≡ 0 → s ≡ without_return s
  unfolding without_return
  without_none h = simp (ne_eqb _ _ other)
    where
      other : get_or s (length s - 1) 0 ≡ carriage_return → ⊥
      other e = let z = get_or-eq_default s 0 {n = length s - 1} (omega arith) in omega arith

  module _ (i : ℕ) (at : i ≡ length s - 1) where
    pub without_other : (get_or s i 0 ≡ carriage_return → ⊥) → s ≡ without_return s
    unfolding without_return
    without_other d = simp (← at, ne_eqb _ _ d)

    pub without_one : (n : ℕ) → n ≡ i → get_or s i 0 ≡ carriage_return → take n s ≡ without_return s
    unfolding without_return
    without_one n h e = ap (λ k. take k s) h ∙ simp (← at, eq-eqb _ _ e)
