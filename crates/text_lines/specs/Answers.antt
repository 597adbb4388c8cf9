-- What `collect` promises, in the terms of the definition.
use Rattle.std.specs.Prelude.{ℕ, ◌≡◌, List, Bool, length, take, drop}
use Rattle.std.proofs.Common.{sym, ◌∙◌, ap}
use Rattle.wire.specs.Bytes.{pasted}
use Rattle.text_lines.specs.Line.{Line, line_of}
use Rattle.text_lines.specs.declared.Collected.{Collected}

-- the line after a chunk's bytes from place i on; the buffer has the n bytes of it that are kept so far
unfoldable pub collected : List ℕ → ℕ → List ℕ → ℕ → Bool → Line
collected chunk i line n long = line_of (length line) (take n line) long i (drop i chunk)

pub record Collects (chunk : List ℕ) (i : ℕ) (line₀ : List ℕ) (n : ℕ) (long : Bool) (line : List ℕ) (r : Collected) : Type 0 where
  pub used : r.used ≡ (collected chunk i line₀ n long).next
  pub count : r.length ≡ length (collected chunk i line₀ n long).kept
  pub more : r.long ≡ (collected chunk i line₀ n long).long
  pub ended : r.whole ≡ (collected chunk i line₀ n long).whole
  pub bytes : line ≡ pasted line₀ 0 (collected chunk i line₀ n long).kept

-- the answer that has a line's parts
pub collects : (chunk : List ℕ) (i : ℕ) (line₀ : List ℕ) (n₀ : ℕ) (long₀ : Bool) (line : List ℕ) (n : ℕ) (long whole : Bool) (next : ℕ)
    → collected chunk i line₀ n₀ long₀ ≡ record { kept = take n line; long = long; whole = whole; next = next }
    → length (take n line) ≡ n → line ≡ pasted line₀ 0 (take n line) → Collects chunk i line₀ n₀ long₀ line (record { used = next; length = n; long = long; whole = whole })
collects chunk i line₀ n₀ long₀ line n long whole next e h p =
    record {
      used = ap (λ (x : Line). x.next) (sym e);
      count = sym h ∙ ap (λ (x : Line). length x.kept) (sym e);
      more = ap (λ (x : Line). x.long) (sym e);
      ended = ap (λ (x : Line). x.whole) (sym e);
      bytes = p ∙ ap (λ (x : Line). pasted line₀ 0 x.kept) (sym e);
    }
