-- What the library's comparisons of bytes are in the words of the specs. Assumes nothing.
use Rattle.std.proofs.Common.{◌≡◌, ℕ, ◌+◌, ◌≤◌, List, ◌++◌, Bool, true, false, length, take, drop, ap, ap₂, sym, ◌∙◌, arith, min, append_assoc, drop-drop, refl}
use Rattle.std.specs.Bool.{Decides}
use Rattle.std.specs.List.{between, starts_with}
use Rattle.std.specs.Str.{bytes_eq}
use Rattle.std.proofs.lemmas.Bool.{false≢true}
use Rattle.std.proofs.lemmas.List.{drop_min}
use Rattle.std.proofs.lemmas.Slice.{between_to_end}
use Rattle.std.proofs.lemmas.Slice.Eq.{bytes_eq-Decides}
use borrow.Rule.Slice.PartMut.{put_mid}
use lib.Dec.{eqb}
use Rattle.wire.specs.Bytes.{pasted, part, same_bytes, stands_at}
use Rattle.wire.specs.ByteLaws.{pasted_fits, same_yes, same_no}

-- a test that decides whether two lists are equal
pub same_decided : (r : Bool) (a b : List ℕ) → Decides r (a ≡ b) → r ≡ same_bytes a b
same_decided true a b d = same_yes a ∙ ap (same_bytes a) (d.0 refl)
same_decided false a b d = same_no a b (λ e. false≢true (d.1 e))

pub same_equal : (a b : List ℕ) → bytes_eq a b ≡ same_bytes a b
same_equal a b = same_decided (bytes_eq a b) a b (bytes_eq-Decides a b)

-- `starts_with` of what stands from a place on
pub stands_starts : (s m : List ℕ) (at k : ℕ) → k ≡ min at (length s) → starts_with eqb (between k (length s) s) m ≡ stands_at s at m
unfolding stands_at part
stands_starts s m at k e =
    let rest : between k (length s) s ≡ drop at s = between_to_end s k (length s) (omega arith) ∙ (ap (λ j. drop j s) e ∙ drop_min at s) in
    let l : List ℕ = take (length m) (drop at s) in
    let d = bytes_eq-Decides m l in
    ap (λ r. starts_with eqb r m) rest ∙ same_decided (bytes_eq m l) l m (λ t. sym (d.0 t), λ x. d.1 (sym x))
