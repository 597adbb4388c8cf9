-- Laws of the writer's ways out. Assumes nothing.
use Prim.Native.Nat.{ℕ, ◌+◌, ◌≤◌, ◌<◌}
use mathlib.Core.Path.{◌≡◌, refl, sym, ◌∙◌, ap}
use mathlib.Core.List.{List, [], ◌∷◌, ◌++◌, append_assoc, append-nil}
use mathlib.Core.Bool.{true, false, not, ◌&&◌}
use native.Mathlib.Omega.{arith}
use borrow.Author.Tests.{eq-eqb, ne_eqb}
use lib.Dec.{eqb}
use lib.ListN.{length, length-append}
use Rattle.wire.specs.Bytes.{pasted}
use Rattle.wire.specs.Number.{big_endian}
use Rattle.wire.specs.NumberLaws.{length_big}
use Rattle.eno.specs.Option.{written_as, wrote, refused_with}
use Rattle.init_layout.specs.Layout.{init2, magic_of, message_with, count_field, cipher_bytes, fields_of, encoded, init2_bytes}
use Rattle.init_layout.proofs.LayoutLaws.{length_magic, length_encoded, length_init2}
use Rattle.init_layout.proofs.WritingLaws.{parts}
use Rattle.init_layout.proofs.Refusals.{keys_few}
use Rattle.init_layout.specs.Writing.{parts_fit, write_init2}
use Rattle.init_writing.proofs.Putting.{next, says_unfit, says_no_room, says_wrote}

regroup5 : (a b d e f : List ℕ) → a ++ b ++ d ++ e ++ f ≡ a ++ (b ++ (d ++ (e ++ f)))
regroup5 a b d e f = simp append_assoc

module _ (nonce key : List ℕ) (n : ℕ) where
  joined2 : (cipher : ℕ) → length (init2_bytes cipher nonce key) ≡ n
      → magic_of init2 ++ big_endian 4 n ++ big_endian 2 cipher ++ nonce ++ key ≡ init2_bytes cipher nonce key
  unfolding init2_bytes encoded fields_of count_field cipher_bytes
  joined2 cipher e =
      let m = message_with (cipher ∷ []) nonce key [] in
      regroup5 (magic_of init2) (big_endian 4 n) (big_endian 2 cipher) nonce key
      ∙ (ap (λ k. magic_of init2 ++ (big_endian 4 n ++ (big_endian 2 cipher ++ (nonce ++ k)))) (sym (append-nil key))
      ∙ (ap (λ k. magic_of init2 ++ (big_endian 4 n ++ (k ++ (nonce ++ (key ++ []))))) (sym (append-nil (big_endian 2 cipher)))
      ∙ ap (λ k. magic_of init2 ++ (big_endian 4 k ++ fields_of init2 m)) (sym e ∙ length_encoded init2 m)))

-- Init2
module _ (t cipher : ℕ) (nonce key s : List ℕ) where
  pub init2_parts : parts_fit t nonce key ≡ false → written_as (refused_with 3) s ≡ write_init2 t cipher nonce key s
  unfolding write_init2
  init2_parts e = says_unfit _ (init2_bytes cipher nonce key) s (ap (λ b. b && not (eqb cipher 0)) e)

  module _ (fit : parts_fit t nonce key ≡ true) where
    pub init2_small : length key ≤ 56
    init2_small = omega (arith, (parts t nonce key fit).key_long, keys_few t)

    pub init2_void : cipher ≡ 0 → written_as (refused_with 3) s ≡ write_init2 t cipher nonce key s
    unfolding write_init2
    init2_void e = says_unfit _ (init2_bytes cipher nonce key) s (ap (λ b. b && not (eqb cipher 0)) fit ∙ ap not (eq-eqb cipher 0 e))

  module _ (fit : parts_fit t nonce key ≡ true) (named : cipher ≡ 0 → ⊥) where
    both_fit : parts_fit t nonce key && not (eqb cipher 0) ≡ true
    both_fit = ap (λ b. b && not (eqb cipher 0)) fit ∙ ap not (ne_eqb cipher 0 named)

    long2 : length (init2_bytes cipher nonce key) ≡ 42 + length key
    long2 = length_init2 nonce key (length key) (parts t nonce key fit).nonce_long refl cipher

    pub init2_no_room : length s < 42 + length key → written_as (refused_with 5) s ≡ write_init2 t cipher nonce key s
    unfolding write_init2
    init2_no_room h = says_no_room _ (init2_bytes cipher nonce key) s both_fit _ long2 h

    pub init2_wrote : 42 + length key ≤ length s
        → (t1 t2 t3 t4 t5 : List ℕ) → t1 ≡ pasted s 0 (magic_of init2) → t2 ≡ pasted t1 4 (big_endian 4 (42 + length key)) → t3 ≡ pasted t2 8 (big_endian 2 cipher)
        → t4 ≡ pasted t3 10 nonce → t5 ≡ pasted t4 42 key → written_as (wrote (42 + length key)) t5 ≡ write_init2 t cipher nonce key s
    unfolding write_init2
    init2_wrote room t1 t2 t3 t4 t5 e1 e2 e3 e4 e5 =
        says_wrote _ (init2_bytes cipher nonce key) s both_fit n long2 room t5
        (next s (a ++ b ++ d ++ nonce) t4 key t5 42
        (next s (a ++ b ++ d) t3 nonce t4 10
        (next s (a ++ b) t2 d t3 8
        (next s a t1 b t2 4 e1 (sym la) (omega (arith, lb)) e2)
        (omega (arith, la, lb, lab)) (omega (arith, ld)) e3)
        (omega (arith, la, lb, lab, ld, labd)) (omega (arith, nonce_long)) e4)
        (omega (arith, la, lb, ld, lab, labd, length-append (a ++ b ++ d) nonce, nonce_long)) room e5
        ∙ ap (pasted s 0) (joined2 nonce key n cipher long2))
      where
        n : ℕ
        n = 42 + length key

        a : List ℕ
        a = magic_of init2

        b : List ℕ
        b = big_endian 4 n

        d : List ℕ
        d = big_endian 2 cipher

        nonce_long : length nonce ≡ 32
        nonce_long = (parts t nonce key fit).nonce_long

        la : length a ≡ 4
        la = length_magic init2

        lb : length b ≡ 4
        lb = length_big 4 n

        ld : length d ≡ 2
        ld = length_big 2 cipher

        lab : length (a ++ b) ≡ length a + length b
        lab = length-append a b

        labd : length (a ++ b ++ d) ≡ length (a ++ b) + length d
        labd = length-append (a ++ b) d
