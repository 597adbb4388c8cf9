-- Laws of how the bytes at hand stand as an Init1 and as an Init2. Assumes nothing.
use Prim.Native.Nat.{ℕ, ◌+◌, ◌*◌}
use mathlib.Core.Path.{◌≡◌, refl, sym, ◌∙◌, ap}
use mathlib.Core.List.{List}
use mathlib.Core.Bool.{Bool, true, false, cond, ◌||◌}
use borrow.Author.Tests.{eq-eqb, ne_eqb}
use lib.Dec.{eqb}
use lib.ListN.{get_or}
use Rattle.eno.specs.Tep.{key_length}
use Rattle.init_layout.specs.Layout.{Init, init1, init2, magic_of}
use Rattle.init_layout.specs.Reading.{count_at, ciphers_from, nonce_from, fields_end, Standing, unreadable, standing, void_from, void_at, standing_of}

-- either message
module _ (i : Init) (keys : ℕ) (p : List ℕ) where
  void_stands : void_at i p ≡ true → unreadable ≡ standing_of i keys p
  unfolding standing_of
  void_stands e = sym (ap (λ b. cond b unreadable (standing (magic_of i) (fields_end i keys (count_at i p)) p)) e)

  clear_stands : void_at i p ≡ false → standing (magic_of i) (fields_end i keys (count_at i p)) p ≡ standing_of i keys p
  unfolding standing_of
  clear_stands e = sym (ap (λ b. cond b unreadable (standing (magic_of i) (fields_end i keys (count_at i p)) p)) e)

or_true : (a b : Bool) → b ≡ true → a || b ≡ true
or_true true b e = refl
or_true false b e = e

-- Init1
module _ (t : ℕ) (p : List ℕ) (count : ℕ) (is_count : count ≡ get_or p 8 1) where
  is_void_lem : void_at init1 p ≡ eqb count 0 || void_from count p 9
  unfolding void_at count_at ciphers_from
  is_void_lem = ap (λ k. eqb k 0 || void_from k p 9) (sym is_count)

  pub progress1_empty : count ≡ 0 → unreadable ≡ standing_of init1 (key_length t) p
  progress1_empty h = void_stands init1 (key_length t) p (is_void_lem ∙ ap (λ b. b || void_from count p 9) (eq-eqb count 0 h))

  pub progress1_void : void_from count p 9 ≡ true → unreadable ≡ standing_of init1 (key_length t) p
  progress1_void h = void_stands init1 (key_length t) p (is_void_lem ∙ or_true (eqb count 0) (void_from count p 9) h)

  pub progress1_settled : (count ≡ 0 → ⊥) → void_from count p 9 ≡ false → (keys : ℕ) → keys ≡ key_length t → (v : Standing)
      → v ≡ standing (magic_of init1) (9 + 2 * count + 32 + keys) p → v ≡ standing_of init1 (key_length t) p
  unfolding fields_end nonce_from ciphers_from count_at
  progress1_settled h e keys is-keys v st =
      st
      ∙ (ap (λ k. standing (magic_of init1) (9 + 2 * count + 32 + k) p) is-keys
      ∙ (ap (λ k. standing (magic_of init1) (9 + 2 * k + 32 + key_length t) p) is_count
      ∙ clear_stands init1 (key_length t) p (is_void_lem ∙ (ap (λ b. b || void_from count p 9) (ne_eqb count 0 h) ∙ e))))

-- Init2
module _ (t : ℕ) (p : List ℕ) where
  only_cipher : void_at init2 p ≡ void_from 1 p 8
  unfolding void_at count_at ciphers_from
  only_cipher = refl

  pub progress2_void : void_from 1 p 8 ≡ true → unreadable ≡ standing_of init2 (key_length t) p
  progress2_void h = void_stands init2 (key_length t) p (only_cipher ∙ h)

  pub progress2_settled : void_from 1 p 8 ≡ false → (keys : ℕ) → keys ≡ key_length t → (v : Standing)
      → v ≡ standing (magic_of init2) (42 + keys) p → v ≡ standing_of init2 (key_length t) p
  unfolding fields_end nonce_from ciphers_from count_at
  progress2_settled e keys is-keys v st =
      st ∙ (ap (λ k. standing (magic_of init2) (42 + k) p) is-keys ∙ clear_stands init2 (key_length t) p (only_cipher ∙ e))
