-- Laws by which the promise is used: when extract and expand are refused, and what they give otherwise. Assumes nothing.
use Rattle.std.specs.Prelude.{ℕ, ◌+◌, ◌≤◌, ◌<◌, ◌≡◌, refl, List, [], ◌++◌, Bool, true, false, ◌&&◌, ltb}
use Rattle.std.proofs.Common.{◌∙◌, ap, append-nil, arith, drop_of_length-le}
use Rattle.std.proofs.Math.Decide.{dec_lt}
use borrow.Author.Tests.{lt-ltb, le-ltb, eq-eqb}
use Rattle.std.proofs.Math.ListN.{length}
use Rattle.wire.specs.Bytes.{pasted}
use Rattle.wire.specs.ByteLaws.{pasted_fits}
use Rattle.refusals.specs.Rows.{refusal}
use Rattle.hkdf_interface.specs.Interface.{hkdf_extract, hkdf_expand, length_expand, written, unless, extract, expand, longest, too_long, mac_too_long, most_expanded, expand_too_long, digest, expanded, outcome}
use Rattle.hkdf_interface.specs.InterfaceLaws.{no_key, filled}

module _ (salt ikm : List ℕ) where
  -- a key is extracted
  pub extract_made : length salt ≤ longest → 64 + length ikm ≤ longest → outcome (extract salt ikm) ≡ digest (hkdf_extract salt ikm)
  unfolding outcome unless refusal mac_too_long too_long
  extract_made h l = rw (le-ltb longest (length salt) h, le-ltb longest (64 + length ikm) l)

  -- or refused
  pub extract_long : longest < 64 + length ikm → outcome (extract salt ikm) ≡ no_key
  unfolding outcome unless refusal mac_too_long too_long
  extract_long l = elim (dec_lt longest (length salt)) [
    | yes h ↦ rw (lt-ltb longest (length salt) h)
    | no h ↦ rw (le-ltb longest (length salt) (omega arith), lt-ltb longest (64 + length ikm) l)
  ]

and_no : (a : Bool) → a && false ≡ false
and_no true = refl
and_no false = refl

module _ (key info : List ℕ) (n : ℕ) (s : List ℕ) where
  -- as many bytes as are asked for are written at the front of the lent buffer
  pub expand_made : length key ≡ 32 → n ≤ length s → n ≤ most_expanded → 97 + length info ≤ longest → outcome (expand key info n s) ≡ expanded (hkdf_expand key info n) s
  unfolding outcome unless refusal expand_too_long too_long
  expand_made e r h l =
      rw (eq-eqb (length key) 32 e, le-ltb (length s) n r, le-ltb most_expanded n h, le-ltb longest (65 + length info) (omega arith), le-ltb longest (97 + length info) l, and_no (ltb 0 n), and_no (ltb 32 n))

pasted_whole : (s d : List ℕ) → length d ≡ length s → pasted s 0 d ≡ d
pasted_whole s d e =
    pasted_fits s 0 d (omega arith) ∙ (ap (λ l. d ++ l) (drop_of_length-le s {i = 0 + length d} (omega arith)) ∙ append-nil d)

pub expand_whole : (key info s : List ℕ) → length key ≡ 32 → length s ≤ most_expanded → 97 + length info ≤ longest
    → outcome (expand key info (length s) s) ≡ filled (hkdf_expand key info (length s))
unfolding expanded
expand_whole key info s e h l =
    expand_made key info (length s) s e (omega arith) h l
    ∙ ap (λ b. record { reply = written (length (hkdf_expand key info (length s))); bytes = []; buffer = b }) (pasted_whole s (hkdf_expand key info (length s)) (length_expand key info (length s)))
