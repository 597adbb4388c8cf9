-- What a call gives back and what it changes; refusals, lowest number first.
use Rattle.std.specs.Prelude.{ℕ, List, [], Bool}
use Rattle.std.proofs.Math.Option.{Option, none, some}
use Rattle.eno.specs.Judge.{Way}
use Rattle.eno.specs.declared.SessionRecord.{SessionRecord}
use Rattle.eno.specs.declared.Cause.{Cause}
use Rattle.door.specs.Door.{Phase, Seen}
use Rattle.door.specs.declared.Door.{Door}
unfoldable pub use Rattle.refusals.specs.Rows.{refusal}

-- the reply, in document 01's numbers and values
pub data Reply : Type 0 where
  refused : ℕ → Reply
  -- bytes written
  written : ℕ → Reply
  -- plain TCP, with its reason
  plain : Cause → Reply
  -- the phase that the door is in now
  now_in : Phase → Reply
  -- role, TEP byte, way, bytes of the transcript, secret
  encrypted : (role byte : ℕ) → Way → (bytes : ℕ) → (secret : List ℕ) → Reply
  done : Reply
  holds : ℕ → Reply

-- what a call does with the pool
pub data Effect : Type 0 where
  keep : Effect
  add : SessionRecord → Effect
  -- the j-th oldest
  remove : ℕ → Effect

pub record Outcome : Type 0 where
  pub reply : Reply
  -- the lent buffer afterwards
  pub buffer : List ℕ
  pub door : Door
  pub effect : Effect

-- a refusal leaves everything as found
abbrev pub refuse : ℕ → Door → List ℕ → Outcome
refuse n d s = record { reply = refused n; buffer = s; door = d; effect = keep }

-- what a call does unless it is refused
unfoldable pub unless : Option ℕ → Door → List ℕ → Outcome → Outcome
unless none d s else-this = else-this
unless (some n) d s else-this = refuse n d s
