-- Demand 1 for frames: a refusal leaves the lent buffer as found, and a reply is `refused n` exactly when n is the least number that applies. Assumes nothing.
use Rattle.std.specs.Prelude.{ℕ, List, [], Bool, true, false, ◌↔◌, length}
use Rattle.std.proofs.Math.Path.{◌≡◌, refl}
use Rattle.std.proofs.Common.{sym, ◌∙◌, ap, arith}
use Rattle.std.proofs.Math.Option.{Option, none, some}
use Rattle.wire.specs.Number.{big_endian}
use Rattle.refusals.specs.Rows.{refusal, Rising, Least}
use Rattle.refusals.specs.RowLaws.{first_is_least}
use Rattle.frame_layout.specs.Layout as layout
use Rattle.frame_layout.specs.Layout.{bit1, least_length, most_length, most_offset, most_plaintext, next_offset, no_frame, flags_sent, heading}
use Rattle.frame_layout.specs.Outcome.{Reply, refused, begins, header, made, written, plaintext, Outcome, unless}
use Rattle.frame_layout.specs.Calls.{Ask, next, write_header, read_header, nonce, write_plaintext, read_plaintext, length_in, no_plaintext, header_in, header_out, plaintext_in, plaintext_out, outcome}
use Rattle.frame_layout.specs.Numbered.{number3, number5, number9, number11, number12, no_length, size_of, lent_of, to_write, rows, applies}
use Rattle.frame_layout.specs.Refusals.{refused_by}

module _ (zeros s : List ℕ) (x : Outcome) (taken : refused_by x.reply ≡ none) where
  told : (t : Option ℕ) → refused_by (unless t zeros s x).reply ≡ t
  unfolding unless
  told none = taken
  told (some n) = refl

  kept : (t : Option ℕ) (n : ℕ) → refused_by (unless t zeros s x).reply ≡ some n → (unless t zeros s x).buffer ≡ s
  unfolding unless
  kept none n e = let z : ◌≡◌ {A = ℕ} 0 1 = cc in absurd (omega arith)
  kept (some m) n e = refl

-- a refusal leaves the lent buffer as found
pub refusal_changes_nothing : (k : Ask) (n : ℕ) → (outcome k).reply ≡ refused n → (outcome k).buffer ≡ lent_of k
unfolding outcome lent_of header_in header_out plaintext_in plaintext_out
refusal_changes_nothing (next offset clen) n e = kept _ [] _ refl _ n (ap refused_by e)
refusal_changes_nothing (write_header rekey clen offset s) n e = kept _ s _ refl _ n (ap refused_by e)
refusal_changes_nothing (read_header s offset) n e = kept _ [] _ refl _ n (ap refused_by e)
refusal_changes_nothing (nonce fixed offset) n e = kept _ [] _ refl _ n (ap refused_by e)
refusal_changes_nothing (write_plaintext fin urg urgent payload s) n e = kept _ s _ refl _ n (ap refused_by e)
refusal_changes_nothing (read_plaintext s) n e = kept _ [] _ refl _ n (ap refused_by e)

-- a plaintext has as many bytes as the table counts
size_is : (fin urg : Bool) (urgent : ℕ) (payload : List ℕ) → length (layout.plaintext (flags_sent fin urg) urgent payload) ≡ size_of urg payload
unfolding layout.plaintext heading size_of flags_sent bit1 big_endian
size_is true true urgent payload = omega arith
size_is true false urgent payload = omega arith
size_is false true urgent payload = omega arith
size_is false false urgent payload = omega arith

-- the reply is refused by the first row that applies
refused_by_rows : (k : Ask) → refused_by (outcome k).reply ≡ refusal (rows k)
unfolding outcome rows number3 number5 number9 number11 number12 no_length lent_of to_write refusal no_frame next_offset least_length most_length most_offset most_plaintext length_in no_plaintext bit1 header_in header_out plaintext_in plaintext_out
refused_by_rows (next offset clen) = told _ [] _ refl _
refused_by_rows (write_header rekey clen offset s) = told _ s _ refl _
refused_by_rows (read_header s offset) = told _ [] _ refl _
refused_by_rows (nonce fixed offset) = told _ [] _ refl _
refused_by_rows (write_plaintext fin urg urgent payload s) = told _ s _ refl _ ∙ (rw (size_is fin urg urgent payload))
refused_by_rows (read_plaintext s) = told _ [] _ refl _

rows_rise : (k : Ask) → Rising 0 (rows k)
unfolding rows
rows_rise k = (omega arith, (omega arith, (omega arith, (omega arith, (omega arith, tt)))))

refused_back : (x : Reply) (n : ℕ) → refused_by x ≡ some n → x ≡ refused n
refused_back (refused m) n e = let q : m ≡ n = cc in ap refused q
refused_back (begins o) n e = let z : ◌≡◌ {A = ℕ} 0 1 = cc in absurd (omega arith)
refused_back (header rekey clen after) n e = let z : ◌≡◌ {A = ℕ} 0 1 = cc in absurd (omega arith)
refused_back made n e = let z : ◌≡◌ {A = ℕ} 0 1 = cc in absurd (omega arith)
refused_back (written m) n e = let z : ◌≡◌ {A = ℕ} 0 1 = cc in absurd (omega arith)
refused_back (plaintext fin urg urgent at) n e = let z : ◌≡◌ {A = ℕ} 0 1 = cc in absurd (omega arith)

-- the reply is `refused n` exactly when n is the least number that applies; so no other number occurs
pub refused_exactly : (k : Ask) (n : ℕ) → ((outcome k).reply ≡ refused n) ↔ Least (applies k) n
unfolding applies
refused_exactly k n =
    let both = first_is_least (rows k) 0 (rows_rise k) n in (
      λ e. both.0 (sym (refused_by_rows k) ∙ ap refused_by e),
      λ l. refused_back (outcome k).reply n (refused_by_rows k ∙ both.1 l),
    )
