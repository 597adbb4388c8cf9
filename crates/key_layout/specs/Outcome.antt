-- What a call on the key schedule gives back.
use Rattle.std.specs.Prelude.{ℕ, List, []}
use Rattle.std.proofs.Math.Option.{Option, none, some}

-- the reply, in the numbers of documents 01 and 02
pub data Reply : Type 0 where
  refused : ℕ → Reply
  made : Reply

-- the bytes; of traffic keys the key in 32 bytes with its length, and the fixed nonce
pub record Outcome : Type 0 where
  pub reply : Reply
  pub bytes : List ℕ
  pub size : ℕ
  pub fixed : List ℕ

-- bytes alone
unfoldable pub only : List ℕ → Outcome
only d = record { reply = made; bytes = d; size = 0; fixed = [] }

-- what a call gives unless it is refused: then zeros in the place of bytes and fixed nonce
unfoldable pub unless : Option ℕ → (zeros fixed : List ℕ) → Outcome → Outcome
unless none zeros fixed else-this = else-this
unless (some n) zeros fixed else-this = record { reply = refused n; bytes = zeros; size = 0; fixed = fixed }
