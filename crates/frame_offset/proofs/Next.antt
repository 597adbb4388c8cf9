-- Laws of the offset after a frame: each way out of its tests. Assumes nothing.
use Rattle.std.specs.Prelude.{ℕ, ◌+◌, ◌^◌, ◌≤◌, ◌<◌, ◌≡◌, refl, Bool, true, false, Option, Some, None, SomeIff}
use Rattle.std.proofs.Common.{sym, ◌∙◌, ap, arith, lt-ltb, le-ltb}
use Rattle.refusals.specs.Rows.{refusal}
use Rattle.frame_layout.specs.Layout.{least_length, most_length, most_offset, next_offset, no_frame}
use Rattle.frame_layout.specs.Outcome.{Outcome, unless}
use Rattle.frame_layout.specs.Calls.{next, outcome}
use Rattle.frame_layout.specs.Answers.{next_told}

module _ (offset clen : ℕ) where
  next_none : no_frame offset clen ≡ true → next_told None ≡ outcome (next offset clen)
  unfolding outcome unless refusal
  next_none e = rw e

  next_some : no_frame offset clen ≡ false → next_told (Some (next_offset offset clen)) ≡ outcome (next offset clen)
  unfolding outcome unless refusal
  next_some e = rw e

  pub next_short : clen < 17 → next_told None ≡ outcome (next offset clen)
  unfolding no_frame least_length
  next_short h = next_none (rw (lt-ltb _ _ h))

  pub next_long : 65535 < clen → next_told None ≡ outcome (next offset clen)
  unfolding no_frame least_length most_length
  next_long h = let low : 17 ≤ clen = omega arith in next_none (rw (le-ltb _ _ low, lt-ltb _ _ h))

  -- the sum is the offset after the frame exactly where a u64 holds it
  pub next_sum : 17 ≤ clen → clen ≤ 65535 → (r : Option ℕ) → SomeIff r (offset + (3 + clen) < 2 ^ 64) (offset + (3 + clen)) → next_told r ≡ outcome (next offset clen)
  unfolding no_frame least_length most_length most_offset next_offset
  next_sum low high None f =
      let over : 0xffffffffffffffff < offset + 3 + clen = omega arith in
      next_none (rw (le-ltb _ _ low, le-ltb _ _ high, lt-ltb _ _ over))
  next_sum low high (Some m) f =
      let e : m ≡ offset + 3 + clen = omega arith in
      let fits : offset + 3 + clen ≤ 0xffffffffffffffff = omega arith in
      ap (λ x. next_told (Some x)) e ∙ next_some (rw (le-ltb _ _ low, le-ltb _ _ high, le-ltb _ _ fits))

  -- what the answer says of the frame
  pub none_told : next_told None ≡ outcome (next offset clen) → no_frame offset clen ≡ true
  none_told e = go (no_frame offset clen) refl
    where
      go : (b : Bool) → no_frame offset clen ≡ b → b ≡ true
      go true q = refl
      go false q = let p = ap (λ (x : Outcome). x.reply) (e ∙ sym (next_some q)) in let z : ◌≡◌ {A = ℕ} 0 1 = cc in absurd (omega arith)

  pub next_told_lem : (m : ℕ) → next_told (Some m) ≡ outcome (next offset clen) → (no_frame offset clen ≡ false) × (m ≡ next_offset offset clen)
  next_told_lem m e = go (no_frame offset clen) refl
    where
      go : (b : Bool) → no_frame offset clen ≡ b → (b ≡ false) × (m ≡ next_offset offset clen)
      go true q = let p = ap (λ (x : Outcome). x.reply) (e ∙ sym (next_none q)) in let z : ◌≡◌ {A = ℕ} 0 1 = cc in absurd (omega arith)
      go false q = let p = ap (λ (x : Outcome). x.reply) (e ∙ sym (next_some q)) in (refl, cc)
