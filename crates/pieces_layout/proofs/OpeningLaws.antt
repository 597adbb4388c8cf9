-- A reader that goes through the beginning of a stream up to the byte with which a test holds. Assumes nothing.
use Rattle.std.specs.Prelude.{ℕ, ◌<◌, ◌≡◌, Bool}
use Rattle.std.proofs.Math.Path.{refl, subst}
use Rattle.std.proofs.Common.{sym, ◌∙◌}
use mathlib.Core.List.{List, [], ◌∷◌, ◌++◌, append_assoc, append-nil}
use Rattle.std.proofs.Math.Bool.{true, false}
use Rattle.wire.specs.Bytes.{Bytes}
use Rattle.pieces_layout.specs.Reader.{Reader}
use Rattle.pieces_layout.specs.Step.{waiting, after_byte}
use Rattle.pieces_layout.specs.Each.{noting, each}
use Rattle.pieces_layout.specs.Stream.{Opening, not_yet, settled, opening}

-- P p r: the reader has taken p, and waits
module _ (test : List ℕ → Bool) (P : List ℕ → Reader → Type 0) where
  -- it waits on while the test does not hold
  pub record Onward (p : List ℕ) (r : Reader) (b : ℕ) : Type 0 where
    pub waits : (after_byte r b).told ≡ waiting
    pub next : P (p ++ (b ∷ [])) (after_byte r b).reader

  -- the byte with which the test holds, and the reader that meets it
  pub record Met (p s : List ℕ) (r : Reader) (q l : List ℕ) : Type 0 where
    pub before : List ℕ
    pub byte : ℕ
    pub reader : Reader
    pub took : P before reader
    pub is : q ≡ before ++ (byte ∷ [])
    pub whole : q ++ l ≡ p ++ s
    pub holds : test q ≡ true
    pub small : byte < 256
    pub rest_bytes : Bytes l
    pub comes_to : each r s ≡ noting (after_byte reader byte).told (after_byte reader byte).reader (each (after_byte reader byte).reader l)

  pub record Through (p s : List ℕ) (r : Reader) : Type 0 where
    pub quiet : (each r s).reports ≡ []
    pub took_all : P (p ++ s) (each r s).reader

  abbrev pub Opened : (p s : List ℕ) → Reader → Opening → Type 0
  Opened p s r not_yet = Through p s r
  Opened p s r (settled q l) = Met p s r q l

  module _ (onward : (p : List ℕ) (r : Reader) (b : ℕ) → P p r → b < 256 → test (p ++ (b ∷ [])) ≡ false → Onward p r b) where
    -- one byte further
    further : (p : List ℕ) (b : ℕ) (l : List ℕ) (r : Reader) → Onward p r b → (v : Opening) → Opened (p ++ (b ∷ [])) l (after_byte r b).reader v → Opened p (b ∷ l) r v
    unfolding each noting
    further p b l r h not_yet m =
        record {
          quiet = (rw h.waits) ∙ m.quiet;
          took_all = subst (λ x. P x (each r (b ∷ l)).reader) (append_assoc p (b ∷ []) l) (subst (P ((p ++ (b ∷ [])) ++ l)) (sym (rw h.waits)) m.took_all);
        }
    further p b l r h (settled q k) m =
        record {
          before = m.before;
          byte = m.byte;
          reader = m.reader;
          took = m.took;
          is = m.is;
          whole = m.whole ∙ append_assoc p (b ∷ []) l;
          holds = m.holds;
          small = m.small;
          rest_bytes = m.rest_bytes;
          comes_to = (rw h.waits) ∙ m.comes_to;
        }

    pub opened : (s p : List ℕ) (r : Reader) → P p r → Bytes s → Opened p s r (opening test p s)
    unfolding opening each
    opened [] p r h y = record { quiet = refl; took_all = subst (λ x. P x r) (sym (append-nil p)) h }
    opened (b ∷ l) p r h y = go (λ x z. opened l (p ++ (b ∷ [])) x z y.1) (test (p ++ (b ∷ []))) refl
      where
        go : ((x : Reader) → P (p ++ (b ∷ [])) x → Opened (p ++ (b ∷ [])) l x (opening test (p ++ (b ∷ [])) l)) → (t : Bool) → test (p ++ (b ∷ [])) ≡ t
            → Opened p (b ∷ l) r (elim t [ true ↦ settled (p ++ (b ∷ [])) l | false ↦ opening test (p ++ (b ∷ [])) l ])
        go again true e =
            record {
              before = p;
              byte = b;
              reader = r;
              took = h;
              is = refl;
              whole = append_assoc p (b ∷ []) l;
              holds = e;
              small = y.0;
              rest_bytes = y.1;
              comes_to = refl;
            }
        go again false e = let n = onward p r b h y.0 e in further p b l r n (opening test (p ++ (b ∷ [])) l) (again (after_byte r b).reader n.next)
