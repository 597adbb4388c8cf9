-- How the parse of a stream ends: it waits with all bytes taken, or is refused at one of them. Assumes nothing.
use Rattle.std.specs.Prelude.{ℕ, zero, suc, ◌+◌, ◌-◌, ◌≤◌, ◌<◌, ◌≡◌, List, [], ◌∷◌, ◌++◌, Bool, ◌||◌, ltb, drop}
use Rattle.std.proofs.Math.Path.{refl, ap}
use Rattle.std.proofs.Common.{sym, ◌∙◌, subst, append_assoc}
use Rattle.std.proofs.Math.Bool.{true, false}
use native.Mathlib.Omega.{arith}
use borrow.Author.Tests.{ltb-false}
use Rattle.std.proofs.Math.ListN.{length, length-append, length-drop}
use Rattle.eno.specs.Tep.{key_length}
use Rattle.init_layout.specs.Layout.{Init, init1, init2}
use Rattle.init_layout.specs.Reading.{Says, took, refused_with, Reading, read_init1, read_init2}
use Rattle.frame_layout.specs.Layout.{next_offset}
use Rattle.frame_layout.specs.Calls.{length_in}
use Rattle.pieces_layout.specs.Step.{hopeless}
use Rattle.pieces_layout.specs.Starts.{Start, for_init1, for_init2, for_frames}
use Rattle.pieces_layout.specs.Stream.{Ending, waits, stops, Parsed, ending, Opening, not_yet, settled, opening, head_decided, frames_in, init_decided, init_in, parse}
use Rattle.pieces_layout.specs.FrameStreamLaws.{body_in, frame_in, opened_in}
use Rattle.pieces_layout.proofs.FrameStreamLaws.{decided, frames_open}
use Rattle.pieces_layout.specs.AsOneShot.{after_init, opened_init}
use Rattle.pieces_layout.proofs.AsOneShot.{init_open}
use Rattle.pieces_layout.specs.StreamLaws.{Counts}

-- what an opening gives is the stream, and the test holds of it
record Splits (test : List ℕ → Bool) (s q l : List ℕ) : Type 0 where
  whole : q ++ l ≡ s
  some_byte : 1 ≤ length q
  holds : test q ≡ true

abbrev SplitsAs : (test : List ℕ → Bool) (s : List ℕ) → Opening → Type 0
SplitsAs test s not_yet = Unit {0}
SplitsAs test s (settled q l) = Splits test s q l

along : (test : List ℕ → Bool) (x y : List ℕ) (v : Opening) → x ≡ y → SplitsAs test x v → SplitsAs test y v
along test x y not_yet e h = tt
along test x y (settled q l) e h = record { whole = h.whole ∙ e; some_byte = h.some_byte; holds = h.holds }

splits : (test : List ℕ → Bool) (s p : List ℕ) → SplitsAs test (p ++ s) (opening test p s)
unfolding opening
splits test [] p = tt
splits test (b ∷ l) p = go (along test ((p ++ (b ∷ [])) ++ l) (p ++ (b ∷ l)) (opening test (p ++ (b ∷ [])) l) (append_assoc p (b ∷ []) l) (splits test l (p ++ (b ∷ [])))) (test (p ++ (b ∷ []))) refl
  where
    go : SplitsAs test (p ++ (b ∷ l)) (opening test (p ++ (b ∷ [])) l) → (t : Bool) → test (p ++ (b ∷ [])) ≡ t
        → SplitsAs test (p ++ (b ∷ l)) (elim t [ true ↦ settled (p ++ (b ∷ [])) l | false ↦ opening test (p ++ (b ∷ [])) l ])
    go f true e = record { whole = append_assoc p (b ∷ []) l; some_byte = omega (arith, length-append p (b ∷ [])); holds = e }
    go f false e = f

wider : (o o' e e' : ℕ) (x : Ending) → o' ≤ o → e ≡ e' → Counts o e x → Counts o' e' x
wider o o' e e' (waits n) h k c = c ∙ k
wider o o' e e' (stops n z) h k c = (omega (arith, c.0), omega (arith, c.1))

-- frames
module _ (again : (offset : ℕ) (s : List ℕ) → Parsed) (o : ℕ) (s : List ℕ)
    (later : (x : ℕ) (t : List ℕ) → length t < length s → Counts x (x + length t) (again x t).ending) where
  body_counts : (n : ℕ) (l : List ℕ) → length s ≡ 3 + length l → (b : Bool) → ltb (length l) n ≡ b → Counts o (o + length s) (body_in again o n l b).ending
  unfolding body_in next_offset
  body_counts n l k true e = omega arith
  body_counts n l k false e =
      let d = length-drop n l in
      let z = ltb-false (length l) n e in
      wider (o + 3 + n) o (o + 3 + n + length (drop n l)) (o + length s) (again (o + 3 + n) (drop n l)).ending (omega arith) (omega arith) (later (o + 3 + n) (drop n l) (omega arith))

  frame_counts : (q l : List ℕ) → Splits (head_decided o) s q l → (b : Bool) → hopeless o q ≡ b → Counts o (o + length s) (frame_in again o q l b).ending
  unfolding frame_in
  frame_counts q l h true e = let n = length-append q l in let k = ap length h.whole in (omega (arith, h.some_byte), omega (arith, h.some_byte))
  frame_counts q l h false e =
      let n = length-append q l in
      let k = ap length h.whole in
      body_counts (length_in q) l (omega (arith, decided o q h.holds e)) (ltb (length l) (length_in q)) refl

  opened_counts : (v : Opening) → SplitsAs (head_decided o) s v → Counts o (o + length s) (opened_in again o s v).ending
  unfolding opened_in
  opened_counts not_yet h = refl
  opened_counts (settled q l) h = frame_counts q l h (hopeless o q) refl

frames_count : (f o : ℕ) (s : List ℕ) → length s < f → Counts o (o + length s) (frames_in f o s).ending
frames_count zero o s k = absurd (omega arith)
frames_count (suc f) o s k =
    subst (λ (x : Parsed). Counts o (o + length s) x.ending) (sym (frames_open f o s))
    (opened_counts (frames_in f) o s (λ x t h. frames_count f x t (omega arith)) (opening (head_decided o) [] s) (splits (head_decided o) s []))

-- an Init message, and then frames
init_counts : (i : Init) (keys : ℕ) (read : List ℕ → Reading) (s : List ℕ) → Counts 0 (length s) (init_in i keys read s).ending
unfolding opened_init after_init
init_counts i keys read s = subst (λ (x : Parsed). Counts 0 (length s) x.ending) (sym (init_open i keys read s)) (go (opening (init_decided read) [] s) (splits (init_decided read) s []))
  where
    says : (q l : List ℕ) → Splits (init_decided read) s q l → (v : Says) → Counts 0 (length s) (after_init i keys read q l v).ending
    says q l h (took c count n) =
        let k = length-append q l in
        wider (length q) 0 (length q + length l) (length s) (frames_in (suc (length l)) (length q) l).ending (omega arith) (omega (arith, ap length h.whole)) (frames_count (suc (length l)) (length q) l (omega arith))
    says q l h (refused_with n) = let k = length-append q l in (omega arith, omega (arith, ap length h.whole, h.some_byte))

    go : (v : Opening) → SplitsAs (init_decided read) s v → Counts 0 (length s) (opened_init i keys read s v).ending
    go not_yet h = refl
    go (settled q l) h = says q l h (read q).says

-- a stream that waits has taken all its bytes; a refusal's position is that of one of them
pub parse_counts : (c : Start) (s : List ℕ) → Counts 0 (length s) (parse c s).ending
unfolding parse
parse_counts (for_init1 t enabled) s = init_counts init1 (key_length t) (read_init1 t enabled) s
parse_counts (for_init2 t own) s = init_counts init2 (key_length t) (read_init2 t own) s
parse_counts for_frames s = wider 0 0 (0 + length s) (length s) (frames_in (suc (length s)) 0 s).ending (omega arith) (omega arith) (frames_count (suc (length s)) 0 s (omega arith))
