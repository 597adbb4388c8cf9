-- What a call on a hash gives back and what it leaves in the lent buffer.
use Rattle.std.specs.Prelude.{ℕ, List}
use Rattle.std.proofs.Math.Option.{Option, none, some}

-- the reply, in the numbers of documents 01 and 02
pub data Reply : Type 0 where
  refused : ℕ → Reply
  -- the bytes beside it
  made : Reply
  -- bytes written
  written : ℕ → Reply

pub record Outcome : Type 0 where
  pub reply : Reply
  -- bytes given back by value: zeros beside a refusal, none where the call gives none
  pub bytes : List ℕ
  -- the lent buffer afterwards
  pub buffer : List ℕ

-- what a call does unless it is refused; a refusal leaves the buffer as found
unfoldable pub unless : Option ℕ → (zeros buffer : List ℕ) → Outcome → Outcome
unless none zeros s else-this = else-this
unless (some n) zeros s else-this = record { reply = refused n; bytes = zeros; buffer = s }
