-- How the bytes of an Init message stand: its list of ciphers beside magic, length and fields. Assumes nothing.
use Rattle.std.specs.Prelude.{ℕ, ◌≡◌, refl, List, Bool, true, false}
use Rattle.std.proofs.Common.{sym, ◌∙◌}
use Rattle.std.proofs.Math.Path.{ap}
use Rattle.std.proofs.Math.Bool.{cond}
use Rattle.std.proofs.lemmas.Bool.{false≢true}
use Rattle.init_layout.specs.Layout.{Init, magic_of}
use Rattle.init_layout.specs.Reading.{length_at, count_at, fields_end, Standing, unreadable, incomplete, whole, standing, void_at, standing_of}
use Rattle.init_layout.proofs.StandingLaws.{stands_unreadable, stands_incomplete, stands_whole, whole_stands}
use Rattle.init_layout.specs.StandingOfLaws.{HopefulFor, WholeFor}

-- what each standing means
abbrev MeansFor : (i : Init) (keys : ℕ) (p : List ℕ) → Standing → Type 0
MeansFor i keys p unreadable = HopefulFor i keys p → ⊥
MeansFor i keys p incomplete = HopefulFor i keys p × (WholeFor i keys p → ⊥)
MeansFor i keys p (whole n) = WholeFor i keys p × (n ≡ length_at p)

with_list : (i : Init) (keys : ℕ) (p : List ℕ) → void_at i p ≡ false → (s : Standing) → standing (magic_of i) (fields_end i keys (count_at i p)) p ≡ s → MeansFor i keys p s
with_list i keys p e unreadable q = λ f. stands_unreadable (magic_of i) (fields_end i keys (count_at i p)) p q f.fields
with_list i keys p e incomplete q =
    let h = stands_incomplete (magic_of i) (fields_end i keys (count_at i p)) p q in
    (record { fields = h.0; clear = e }, λ w. h.1 w.fields)
with_list i keys p e (whole n) q = let h = stands_whole (magic_of i) (fields_end i keys (count_at i p)) p n q in (record { fields = h.0; clear = e }, h.1)

standing_of_means : (i : Init) (keys : ℕ) (p : List ℕ) → MeansFor i keys p (standing_of i keys p)
unfolding standing_of
standing_of_means i keys p = go (void_at i p) refl
  where
    go : (b : Bool) → void_at i p ≡ b → MeansFor i keys p (cond b unreadable (standing (magic_of i) (fields_end i keys (count_at i p)) p))
    go true e = λ h. false≢true (sym h.clear ∙ e)
    go false e = with_list i keys p e (standing (magic_of i) (fields_end i keys (count_at i p)) p) refl

module _ (i : Init) (keys : ℕ) (p : List ℕ) where
  pub of_unreadable : standing_of i keys p ≡ unreadable → HopefulFor i keys p → ⊥
  of_unreadable e = rw e at (standing_of_means i keys p)

  pub of_incomplete : standing_of i keys p ≡ incomplete → HopefulFor i keys p × (WholeFor i keys p → ⊥)
  of_incomplete e = rw e at (standing_of_means i keys p)

  pub of_whole : (n : ℕ) → standing_of i keys p ≡ whole n → WholeFor i keys p × (n ≡ length_at p)
  of_whole n e = rw e at (standing_of_means i keys p)

  -- and back
  pub whole_of : WholeFor i keys p → standing_of i keys p ≡ whole (length_at p)
  unfolding standing_of
  whole_of w =
      ap (λ b. cond b unreadable (standing (magic_of i) (fields_end i keys (count_at i p)) p)) w.clear
      ∙ whole_stands (magic_of i) (fields_end i keys (count_at i p)) p w.fields
