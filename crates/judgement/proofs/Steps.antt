-- One of two, and the answer with a transcript. Assumes nothing.
use Prim.Native.Nat.{ℕ, ◌+◌, ◌≤◌}
use mathlib.Core.Path.{◌≡◌, refl, ap}
use mathlib.Core.List.{List}
use mathlib.Core.Bool.{Bool, true, false, cond}
use lib.ListN.{length, replicate}
use Rattle.wire.specs.Bytes.{pasted}
use Rattle.eno.specs.Judge.{of_a, of_b}
use Rattle.judgement.specs.Answers.{most_transcript, encrypted_as}
use Rattle.judgement.specs.Laws.Transcript.{both_written}
use Rattle.judgement.specs.declared.Verdict.TheVariants as verdict
use Rattle.judgement.specs.declared.Judgement.{Judgement}

-- one of two
module _ {X : Type 0} (b : Bool) (own peer : X) where
  pub b_own : b ≡ true → own ≡ of_b b own peer
  unfolding of_b
  b_own e = rw e refl

  pub b_peer : b ≡ false → peer ≡ of_b b own peer
  unfolding of_b
  b_peer e = rw e refl

  pub a_peer : b ≡ true → peer ≡ of_a b own peer
  unfolding of_a
  a_peer e = rw e refl

  pub a_own : b ≡ false → own ≡ of_a b own peer
  unfolding of_a
  a_own e = rw e refl

-- what a function gives of one of two
module _ {X Y : Type 0} (f : X → Y) where
  pub by_b : (b : Bool) (own peer : X) → f (of_b b own peer) ≡ of_b b (f own) (f peer)
  unfolding of_b
  by_b true own peer = refl
  by_b false own peer = refl

  pub by_a : (b : Bool) (own peer : X) → f (of_a b own peer) ≡ of_a b (f own) (f peer)
  unfolding of_a
  by_a true own peer = refl
  by_a false own peer = refl

-- the answer with a transcript
pub written : (a b : List ℕ) (role byte : ℕ) (again : Bool) → length a ≤ 40 → length b ≤ 40 → (once twice : List ℕ) → once ≡ pasted (replicate most_transcript 0) 0 a
    → twice ≡ pasted once (length a) b
    → record { verdict = verdict.Encrypted role byte again; length = length a + length b; transcript = twice } ≡ encrypted_as a b role byte again
unfolding encrypted_as
written a b role byte again la lb once twice q r = ap made (both_written a b la lb once twice q r)
  where
    made : List ℕ → Judgement
    made t = record { verdict = verdict.Encrypted role byte again; length = length a + length b; transcript = t }
