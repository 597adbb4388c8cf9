-- How long the key of each TEP is that the unit knows, and of any other name.
use Rattle.std.specs.Prelude.{ℕ, ◌≡◌, true, false}
use Rattle.std.proofs.Common.{arith, ◌∙◌}
use Rattle.std.proofs.lemmas.Bool.{false≢true}
use Rattle.std.proofs.Math.Path.{sym}
use borrow.Author.Tests.{ne_eqb}
use Rattle.eno.specs.Tep.{is_known, key_length}
use Rattle.eno.proofs.Laws.Tep.{known_yes}

module _ (t : ℕ) where
  pub key_25519 : t ≡ 0x23 → (is_known t ≡ true) × (key_length t ≡ 32)
  unfolding is_known key_length
  key_25519 e = (simp e, simp e)

  pub key_448 : t ≡ 0x24 → (is_known t ≡ true) × (key_length t ≡ 56)
  unfolding is_known key_length
  key_448 e = (simp e, simp e)

  pub key_p256 : t ≡ 0x21 → (is_known t ≡ true) × (key_length t ≡ 0)
  unfolding is_known key_length
  key_p256 e = (simp e, simp e)

  pub key_p521 : t ≡ 0x22 → (is_known t ≡ true) × (key_length t ≡ 0)
  unfolding is_known key_length
  key_p521 e = (simp e, simp e)

  pub key_unknown : is_known t ≡ false → key_length t ≡ 0
  unfolding key_length
  key_unknown f =
      let m : t ≡ 0x23 → ⊥ = λ q. false≢true (sym f ∙ sym (known_yes t (omega arith) (omega arith))) in
      let n : t ≡ 0x24 → ⊥ = λ q. false≢true (sym f ∙ sym (known_yes t (omega arith) (omega arith))) in
      simp (ne_eqb _ _ m, ne_eqb _ _ n)
