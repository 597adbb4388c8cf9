-- What the answer of a hash says: `Ok` with the bytes that were asked for, or a refusal, beside which the papers have zeros. Assumes nothing.
use Rattle.std.specs.Prelude.{ℕ, refl, List, [], ◌∷◌, Bool, Result, Ok, Err, replicate}
use Rattle.std.proofs.Math.Path.{◌≡◌, ap}
use Rattle.std.proofs.Common.{sym, ◌∙◌, arith}
use Rattle.std.proofs.Math.Bool.{true, false}
use Rattle.refusals.specs.Rows.{refusal}
use Rattle.hash_layout.specs.declared.TooLong.{TooLong}
use Rattle.hash_layout.specs.Outcome.{Reply, refused, made, written, Outcome, unless}
use Rattle.hash_layout.specs.Calls.{digest}
use Rattle.hash_layout.specs.Answers.{hash_bytes, hash_told}

-- a refusal with its zeros
abbrev pub no_digest : Outcome
no_digest = record { reply = refused 17; bytes = replicate 32 0; buffer = [] }

-- what a call gives that is refused by one test alone
abbrev pub tested : Bool → List ℕ → Outcome
tested t d = unless (refusal ((t, 17) ∷ [])) (replicate 32 0) [] (digest d)

pub tested_no : (t : Bool) (d : List ℕ) → t ≡ false → tested t d ≡ digest d
unfolding unless refusal
tested_no t d e = rw e

pub tested_yes : (t : Bool) (d : List ℕ) → t ≡ true → tested t d ≡ no_digest
unfolding unless refusal
tested_yes t d e = rw e

abbrev number_of : Reply → ℕ
number_of (refused n) = n
number_of made = 0
number_of (written n) = 0

module _ (r : Result (List ℕ) TooLong) (d : List ℕ) where
  pub told_made : (t : Bool) (x : List ℕ) → hash_told r ≡ tested t d → r ≡ Ok x → (t ≡ false) × (x ≡ d)
  unfolding unless refusal digest
  told_made true x e s =
      let z : ◌≡◌ {A = ℕ} 0 17 = ap (λ (x : Outcome). number_of x.reply) (ap hash_told (sym s) ∙ e) in
      absurd (omega arith)
  told_made false x e s = (refl, ap (λ (x : Outcome). x.bytes) (ap hash_told (sym s) ∙ e))

  pub told_long : (t : Bool) (x : TooLong) → hash_told r ≡ tested t d → r ≡ Err x → (t ≡ true) × (hash_bytes r ≡ replicate 32 0)
  unfolding unless refusal digest
  told_long true x e s = (refl, ap hash_bytes s)
  told_long false x e s =
      let z : ◌≡◌ {A = ℕ} 17 0 = ap (λ (x : Outcome). number_of x.reply) (ap hash_told (sym s) ∙ e) in
      absurd (omega arith)
