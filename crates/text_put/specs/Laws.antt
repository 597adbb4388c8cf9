-- Laws of text that is put at a place. Assumes nothing.
use Rattle.std.specs.Prelude.{ℕ, ◌+◌, ◌≤◌, ◌<◌, ◌≡◌, List, length}
use Rattle.std.proofs.Common.{sym, le-leb}
use Rattle.std.proofs.lemmas.Bool.{lt-leb}
use Rattle.wire.specs.Bytes.{pasted}
use Rattle.wire.specs.ByteLaws.{pasted_over}
use Rattle.text_put.specs.Answers.{place_after}

-- what fits is followed by its end, what does not changes nothing
module _ (s : List ℕ) (i : ℕ) (v : List ℕ) where
  pub after_fits : i + length v ≤ length s → i + length v ≡ place_after s i v
  unfolding place_after
  after_fits h = simp (le-leb _ _ h)

  pub after_over : length s < i + length v → i ≡ place_after s i v
  unfolding place_after
  after_over h = simp (lt-leb _ _ h)

  pub pasted_none : length s < i + length v → s ≡ pasted s i v
  pasted_none h = sym (pasted_over s i v h)
