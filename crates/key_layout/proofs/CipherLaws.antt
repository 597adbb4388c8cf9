-- The cases of `cipher_of`. Assumes nothing.
use Rattle.std.specs.Prelude.{ℕ, ◌≤◌, ◌≡◌, Bool, true, false, cond, ◌||◌, eqb, Option, Some, None, is_some}
use Rattle.std.proofs.Math.Path.{refl, sym, ap}
use Rattle.std.proofs.Common.{◌∙◌, arith}
use mathlib.Core.Bool.{true≢false}
use Rattle.std.proofs.Math.Decide.{dec_lt}
use borrow.Author.Tests.{ne_eqb}
use Rattle.key_layout.specs.Cipher.{is_cipher, key_length, cipher_number, cipher_of}
use Rattle.key_layout.specs.declared.Cipher.{Cipher}
use Rattle.key_layout.specs.declared.Cipher.TheVariants as v
use Rattle.key_layout.specs.CipherLaws.{Tells}

module _ (c : ℕ) where
  pub cipher_128 : c ≡ 0x0001 → Some v.Aes128Gcm ≡ cipher_of c
  unfolding cipher_of
  cipher_128 e = simp e

  pub cipher_256 : c ≡ 0x0002 → Some v.Aes256Gcm ≡ cipher_of c
  unfolding cipher_of
  cipher_256 e = simp e

  pub cipher_chacha : c ≡ 0x0010 → Some v.Chacha20Poly1305 ≡ cipher_of c
  unfolding cipher_of
  cipher_chacha e = simp e

  pub cipher_unknown : (c ≡ 0x0001 → ⊥) → (c ≡ 0x0002 → ⊥) → (c ≡ 0x0010 → ⊥) → None ≡ cipher_of c
  unfolding cipher_of
  cipher_unknown a b d = simp (ne_eqb _ _ a, ne_eqb _ _ b, ne_eqb _ _ d)

  pub length_unknown : (c ≡ 0x0001 → ⊥) → (c ≡ 0x0002 → ⊥) → (c ≡ 0x0010 → ⊥) → key_length c ≡ 0
  unfolding key_length
  length_unknown a b d = simp (ne_eqb _ _ a, ne_eqb _ _ b, ne_eqb _ _ d)

abbrev number_back : Option Cipher → ℕ
number_back (Some x) = cipher_number x
number_back None = 0

tells_of : (c : ℕ) (x : Option Cipher) → x ≡ cipher_of c → is_some x ≡ is_cipher c → ((y : Cipher) → x ≡ Some y → cipher_number y ≡ c) → Tells c
tells_of c x e k n =
    record {
      known = ap is_some (sym e) ∙ k;
      number = λ y f. n y (e ∙ f);
      length = λ y f. ap key_length (n y (e ∙ f));
    }

tells_none : (c : ℕ) → (c ≡ 0x0001 → ⊥) → (c ≡ 0x0002 → ⊥) → (c ≡ 0x0010 → ⊥) → Tells c
unfolding is_cipher
tells_none c h k l =
    tells_of c None (cipher_unknown c h k l) (simp (ne_eqb _ _ h, ne_eqb _ _ k, ne_eqb _ _ l)) (λ y f. let z : ◌≡◌ {A = Bool} false true = ap is_some f in absurd (true≢false (sym z)))

-- what a number says of its cipher
pub cipher_tells : (c : ℕ) → Tells c
unfolding is_cipher
cipher_tells c = elim (dec_lt c 0x0001) [
  | yes h ↦ tells_none c (λ e. omega arith) (λ e. omega arith) (λ e. omega arith)
  | no h ↦ elim (dec_lt c 0x0002) [
    | yes k ↦
        let e : c ≡ 0x0001 = omega arith in
        tells_of c (Some v.Aes128Gcm) (cipher_128 c e) (simp e) (λ y f. sym (ap number_back f) ∙ sym e)
    | no k ↦ elim (dec_lt c 0x0003) [
      | yes l ↦
          let e : c ≡ 0x0002 = omega arith in
          tells_of c (Some v.Aes256Gcm) (cipher_256 c e) (simp e) (λ y f. sym (ap number_back f) ∙ sym e)
      | no l ↦ elim (dec_lt c 0x0010) [
        | yes m ↦ tells_none c (λ e. omega arith) (λ e. omega arith) (λ e. omega arith)
        | no m ↦ elim (dec_lt c 0x0011) [
          | yes n ↦
              let e : c ≡ 0x0010 = omega arith in
              tells_of c (Some v.Chacha20Poly1305) (cipher_chacha c e) (simp e) (λ y f. sym (ap number_back f) ∙ sym e)
          | no n ↦ tells_none c (λ e. omega arith) (λ e. omega arith) (λ e. omega arith)
        ]
      ]
    ]
  ]
]

-- what a cipher says
pub cipher_known : (c : ℕ) (b : Bool) → is_some (cipher_of c) ≡ b → is_cipher c ≡ b
cipher_known c b f = sym (cipher_tells c).known ∙ f

pub cipher_length : (c : ℕ) (x : Cipher) → cipher_of c ≡ Some x → key_length (cipher_number x) ≡ key_length c
cipher_length c x e = (cipher_tells c).length x e

-- a number that is no cipher's has no key
pub cipher_none : (c : ℕ) → cipher_of c ≡ None → key_length c ≡ 0
unfolding is_cipher key_length
cipher_none c e = go (eqb c 0x0001) (eqb c 0x0002) (eqb c 0x0010) (sym (cipher_tells c).known ∙ ap is_some e)
  where
    go : (a b d : Bool) → a || b || d ≡ false → ◌≡◌ {A = ℕ} (cond a 16 (cond (b || d) 32 0)) 0
    go true b d q = absurd (true≢false q)
    go false true d q = absurd (true≢false q)
    go false false true q = absurd (true≢false q)
    go false false false q = refl

-- a key has at most 32 bytes
pub key_most : (c : ℕ) → key_length c ≤ 32
unfolding key_length
key_most c = go (eqb c 0x0001) (eqb c 0x0002 || eqb c 0x0010)
  where
    go : (a b : Bool) → cond a 16 (cond b 32 0) ≤ 32
    go true b = omega arith
    go false true = omega arith
    go false false = omega arith
