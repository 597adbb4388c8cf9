-- A result that names a TEP had room for the transcript. Assumes nothing.
use Rattle.std.specs.Prelude.{ℕ, ◌≤◌, Bool, cond, not, ◌&&◌, ◌||◌, List, [], ◌∷◌}
use Rattle.std.proofs.Math.Path.{◌≡◌, refl}
use Rattle.std.proofs.Math.Bool.{true, false}
use Rattle.std.proofs.Common.{arith}
use borrow.Author.Tests.{ltb-false}
use Rattle.std.proofs.Math.Dec.{ltb}
use Rattle.std.proofs.Math.ListN.{length}
use Rattle.wire.specs.Bytes.{pasted}
use Rattle.eno.specs.Judge.{Way, way_if}
use Rattle.door.specs.Door.{phase_of, transcript_of}
use Rattle.door.specs.Outcome.{plain, encrypted, Outcome, keep, refusal, unless}
use Rattle.door.specs.Receive as r
use Rattle.door.specs.Receive.{secret_of, is_open, is_plain}
use Rattle.door.specs.declared.Door.{Door}

module _ (e : Door) (s : List ℕ) where
  abbrev told_as : Bool → Bool → Bool → Outcome
  told_as b c f =
      unless (refusal ((not (b || c), 4) ∷ (b && f, 5) ∷ [])) e s
      (record {
        reply = cond b (encrypted e.role e.tep (way_if e.resumed) (length (transcript_of e)) (secret_of e)) (plain e.cause);
        buffer = cond b (pasted s 0 (transcript_of e)) s;
        door = e;
        effect = keep;
      })

  pub result_room : (role byte : ℕ) (way : Way) (n : ℕ) (secret : List ℕ) → (r.result e s).reply ≡ encrypted role byte way n secret → length (transcript_of e) ≤ length s
  unfolding r.result refusal unless
  result_room role byte way n secret q = go (is_open (phase_of e.phase)) (is_plain (phase_of e.phase)) (ltb (length s) (length (transcript_of e))) refl q
    where
      go : (b c f : Bool) → ltb (length s) (length (transcript_of e)) ≡ f → (told_as b c f).reply ≡ encrypted role byte way n secret → length (transcript_of e) ≤ length s
      go true c false z p = ltb-false _ _ z
      go true c true z p = let w : ◌≡◌ {A = ℕ} 0 1 = cc in absurd (omega arith)
      go false true f z p = let w : ◌≡◌ {A = ℕ} 0 1 = cc in absurd (omega arith)
      go false false f z p = let w : ◌≡◌ {A = ℕ} 0 1 = cc in absurd (omega arith)
