-- What a call on frames gives back and what it leaves in the lent buffer.
use Rattle.std.specs.Prelude.{ℕ, List, Bool}
use Rattle.std.proofs.Math.Option.{Option, none, some}

-- the reply, in document 01's numbers and values
pub data Reply : Type 0 where
  refused : ℕ → Reply
  -- the offset at which the next frame begins
  begins : ℕ → Reply
  -- rekey, ciphertext length, and the offset at which the next frame begins; the associated data are the bytes beside it
  header : (rekey : Bool) (clen next : ℕ) → Reply
  -- the bytes beside it
  made : Reply
  -- bytes written
  written : ℕ → Reply
  -- FINp, URGp, urgent (0 without URGp), and the place where the data begin
  plaintext : (fin urg : Bool) (urgent at : ℕ) → Reply

pub record Outcome : Type 0 where
  pub reply : Reply
  -- bytes given back by value: zeros beside a refusal, none where the call gives none
  pub bytes : List ℕ
  -- the lent buffer afterwards
  pub buffer : List ℕ

-- what a call does unless it is refused; a refusal leaves the buffer as found
unfoldable pub unless : Option ℕ → (zeros buffer : List ℕ) → Outcome → Outcome
unless none zeros s else-this = else-this
unless (some n) zeros s else-this = record { reply = refused n; bytes = zeros; buffer = s }
