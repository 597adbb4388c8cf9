-- The terms by two options: the nonces in their arrays, and what is given. Assumes nothing.
use Prim.Native.Nat.{ℕ, zero, suc, ◌+◌, ◌-◌}
use mathlib.Core.Path.{◌≡◌, refl, sym, ◌∙◌, ap, ap₂}
use mathlib.Core.List.{List, ◌++◌}
use mathlib.Core.Option.{Option, none, some}
use native.Mathlib.Omega.{arith}
use lib.ListN.{length, take, drop, replicate}
use Rattle.wire.specs.Bytes.{part, pasted}
use Rattle.wire.specs.ByteLaws.{pasted_fits, length_part}
use Rattle.key_terms.specs.Terms.{Data, resumption_data, half_in, nonce_in, original_role, keyed_by, carrying, terms_by}
use Rattle.key_terms.specs.Calls.{resumed, no_terms, Outcome, in_eight, zeros, given}
use Rattle.key_terms.specs.Laws.{DataFits}
use Rattle.key_terms.proofs.Laws.{data_fits}

zeros_left : (n m : ℕ) → drop n (replicate {A = ℕ} m 0) ≡ replicate (m - n) 0
zeros_left zero m = ap (λ k. replicate k 0) (let q : m ≡ m - 0 = omega arith in q)
zeros_left (suc n) zero = ap (λ k. replicate k 0) (let q : 0 ≡ 0 - suc n = omega arith in q)
zeros_left (suc n) (suc m) = zeros_left n m ∙ ap (λ k. replicate k 0) (let q : m - n ≡ suc m - suc n = omega arith in q)

-- a nonce copied to the front of eight zeros
pub nonce_copied : (o : List ℕ) (start len : ℕ) → DataFits o start len → (v r : List ℕ) (i e : ℕ) → i ≡ start + 9 → e ≡ start + len → v ≡ take (e - i) (drop i o)
    → r ≡ pasted (replicate 8 0) 0 v → r ≡ in_eight (part (start + 9) (len - 9) o)
unfolding in_eight part
nonce_copied o start len f v r i e ei ee ev er =
    let nine = f.nine in
    let most = f.most in
    let within = f.within in
    let m : length (part (start + 9) (len - 9) o) ≡ len - 9 = length_part (start + 9) (len - 9) o (omega arith) in
    er ∙ (ap (pasted (replicate 8 0) 0) (ev ∙ same) ∙ (pasted_fits (replicate 8 0) 0 (part (start + 9) (len - 9) o) (omega arith)
    ∙ ap (λ l. part (start + 9) (len - 9) o ++ l) (zeros_left (0 + length (part (start + 9) (len - 9) o)) 8
    ∙ ap (λ k. replicate k 0) (let q : 8 - (0 + length (part (start + 9) (len - 9) o)) ≡ 8 - length (part (start + 9) (len - 9) o) = omega arith in q))))
  where
    same : take (e - i) (drop i o) ≡ part (start + 9) (len - 9) o
    same = let n : e - i ≡ len - 9 = omega arith in ap₂ (λ k j. take k (drop j o)) n ei

carried_none : (identifier own peer : List ℕ) (x : Option Data) → none ≡ carrying identifier own peer x none
unfolding carrying
carried_none identifier own peer none = refl
carried_none identifier own peer (some d) = refl

module _ (t : ℕ) (identifier own peer : List ℕ) where
  -- one of the options has no resumption data
  pub own_none : none ≡ resumption_data t own → none ≡ terms_by t identifier own peer
  unfolding terms_by carrying
  own_none e = ap (λ x. carrying identifier own peer x (resumption_data t peer)) e

  pub peer_none : none ≡ resumption_data t peer → none ≡ terms_by t identifier own peer
  unfolding terms_by
  peer_none e = carried_none identifier own peer (resumption_data t own) ∙ ap (λ x. carrying identifier own peer (resumption_data t own) x) e

  pub gives_none : none ≡ terms_by t identifier own peer → (x : Outcome) → x ≡ zeros no_terms → x ≡ given (terms_by t identifier own peer)
  unfolding given
  gives_none e x q = q ∙ ap given e

  module _ (s n : ℕ) (mine : some (record { start = s; len = n }) ≡ resumption_data t own) (p m : ℕ) (theirs : some (record { start = p; len = m }) ≡ resumption_data t peer) where
    by_role : (r : Option ℕ) → r ≡ original_role identifier (part s 9 own) (part p 9 peer)
        → keyed_by (part (s + 9) (n - 9) own) (part (p + 9) (m - 9) peer) r ≡ terms_by t identifier own peer
    unfolding terms_by carrying half_in nonce_in
    by_role r e = ap (keyed_by (part (s + 9) (n - 9) own) (part (p + 9) (m - 9) peer)) e ∙ ap₂ (λ x y. carrying identifier own peer x y) mine theirs

    pub role_untold : none ≡ original_role identifier (part s 9 own) (part p 9 peer) → none ≡ terms_by t identifier own peer
    unfolding keyed_by
    role_untold e = by_role none e

    own_length : n - 9 ≡ length (part (s + 9) (n - 9) own)
    own_length = let f = data_fits t own s n mine in let a = f.nine in let b = f.within in sym (length_part (s + 9) (n - 9) own (omega arith))

    peer_length : m - 9 ≡ length (part (p + 9) (m - 9) peer)
    peer_length = let f = data_fits t peer p m theirs in let a = f.nine in let b = f.within in sym (length_part (p + 9) (m - 9) peer (omega arith))

    module _ (a b : List ℕ) (ea : a ≡ in_eight (part (s + 9) (n - 9) own)) (eb : b ≡ in_eight (part (p + 9) (m - 9) peer)) where
      pub gives_a : some 0 ≡ original_role identifier (part s 9 own) (part p 9 peer)
          → record { says = resumed; original = 0; length_a = n - 9; nonce_a = a; length_b = m - 9; nonce_b = b } ≡ given (terms_by t identifier own peer)
      unfolding given keyed_by
      gives_a e = (λ i. record { says = resumed; original = 0; length_a = own_length i; nonce_a = ea i; length_b = peer_length i; nonce_b = eb i }) ∙ ap given (by_role (some 0) e)

      pub gives_b : some 1 ≡ original_role identifier (part s 9 own) (part p 9 peer)
          → record { says = resumed; original = 1; length_a = m - 9; nonce_a = b; length_b = n - 9; nonce_b = a } ≡ given (terms_by t identifier own peer)
      unfolding given keyed_by
      gives_b e = (λ i. record { says = resumed; original = 1; length_a = peer_length i; nonce_a = eb i; length_b = own_length i; nonce_b = ea i }) ∙ ap given (by_role (some 1) e)
