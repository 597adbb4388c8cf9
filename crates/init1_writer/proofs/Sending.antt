-- Laws of the writer's ways out. Assumes nothing.
use Prim.Native.Nat.{ℕ, ◌+◌, ◌*◌, ◌≤◌, ◌<◌}
use mathlib.Core.Path.{◌≡◌, refl, sym, ◌∙◌, ap}
use mathlib.Core.List.{List, [], ◌∷◌, ◌++◌, append_assoc, append-nil}
use mathlib.Core.Bool.{true, false, ◌&&◌}
use native.Mathlib.Omega.{arith}
use lib.ListN.{length, length-append}
use Rattle.wire.specs.Bytes.{pasted}
use Rattle.wire.specs.Number.{big_endian}
use Rattle.wire.specs.NumberLaws.{length_big}
use Rattle.eno.specs.Option.{written_as, wrote, refused_with}
use Rattle.init_layout.specs.Layout.{init1, magic_of, message_with, count_field, cipher_bytes, fields_of, encoded, init1_bytes}
use Rattle.init_layout.proofs.LayoutLaws.{length_magic, length_ciphers, length_encoded, length_init1}
use Rattle.init_layout.proofs.WritingLaws.{parts, ciphers_listed}
use Rattle.init_layout.proofs.Refusals.{keys_few}
use Rattle.init_layout.specs.Writing.{parts_fit, ciphers_fit, write_init1}
use Rattle.init_writing.proofs.Putting.{next, says_unfit, says_no_room, says_wrote}

-- the fields in a row
regroup : (a b c d e f : List ℕ) → a ++ b ++ c ++ d ++ e ++ f ≡ a ++ (b ++ (c ++ (d ++ (e ++ f))))
regroup a b c d e f = simp append_assoc

module _ (nonce key : List ℕ) (n : ℕ) where
  joined1 : (ciphers : List ℕ) → length (init1_bytes ciphers nonce key) ≡ n
      → magic_of init1 ++ big_endian 4 n ++ (length ciphers ∷ []) ++ cipher_bytes ciphers ++ nonce ++ key ≡ init1_bytes ciphers nonce key
  unfolding init1_bytes encoded fields_of count_field
  joined1 ciphers e =
      let m = message_with ciphers nonce key [] in
      regroup (magic_of init1) (big_endian 4 n) (length ciphers ∷ []) (cipher_bytes ciphers) nonce key
      ∙ (ap (λ k. magic_of init1 ++ (big_endian 4 n ++ (length ciphers ∷ (cipher_bytes ciphers ++ (nonce ++ k))))) (sym (append-nil key))
      ∙ ap (λ k. magic_of init1 ++ (big_endian 4 k ++ fields_of init1 m)) (sym e ∙ length_encoded init1 m))

-- Init1
module _ (t : ℕ) (ciphers nonce key s : List ℕ) where
  pub init1_parts : parts_fit t nonce key ≡ false → written_as (refused_with 3) s ≡ write_init1 t ciphers nonce key s
  unfolding write_init1
  init1_parts e = says_unfit _ (init1_bytes ciphers nonce key) s (ap (λ b. b && ciphers_fit ciphers) e)

  pub init1_few : ciphers_fit ciphers ≡ true → length ciphers ≤ 255
  init1_few e = (ciphers_listed ciphers e).few

  module _ (fit : parts_fit t nonce key ≡ true) where
    pub init1_small : length key ≤ 56
    init1_small = omega (arith, (parts t nonce key fit).key_long, keys_few t)

    pub init1_list : ciphers_fit ciphers ≡ false → written_as (refused_with 3) s ≡ write_init1 t ciphers nonce key s
    unfolding write_init1
    init1_list e = says_unfit _ (init1_bytes ciphers nonce key) s (ap (λ b. b && ciphers_fit ciphers) fit ∙ e)

  module _ (fit : parts_fit t nonce key ≡ true) (listed : ciphers_fit ciphers ≡ true) where
    all_fit : parts_fit t nonce key && ciphers_fit ciphers ≡ true
    all_fit = ap (λ b. b && ciphers_fit ciphers) fit ∙ listed

    long : length (init1_bytes ciphers nonce key) ≡ 9 + 2 * length ciphers + 32 + length key
    long = length_init1 nonce key (length key) (parts t nonce key fit).nonce_long refl ciphers

    pub init1_no_room : length s < 9 + 2 * length ciphers + 32 + length key → written_as (refused_with 5) s ≡ write_init1 t ciphers nonce key s
    unfolding write_init1
    init1_no_room h = says_no_room _ (init1_bytes ciphers nonce key) s all_fit _ long h

    pub init1_wrote : 9 + 2 * length ciphers + 32 + length key ≤ length s
        → (t1 t2 t3 t4 t5 t6 : List ℕ) → t1 ≡ pasted s 0 (magic_of init1) → t2 ≡ pasted t1 4 (big_endian 4 (9 + 2 * length ciphers + 32 + length key))
        → t3 ≡ pasted t2 8 (length ciphers ∷ []) → t4 ≡ pasted t3 9 (cipher_bytes ciphers) → t5 ≡ pasted t4 (9 + 2 * length ciphers) nonce
        → t6 ≡ pasted t5 (9 + 2 * length ciphers + 32) key → written_as (wrote (9 + 2 * length ciphers + 32 + length key)) t6 ≡ write_init1 t ciphers nonce key s
    unfolding write_init1
    init1_wrote room t1 t2 t3 t4 t5 t6 e1 e2 e3 e4 e5 e6 =
        says_wrote _ (init1_bytes ciphers nonce key) s all_fit n long room t6
        (next s (a ++ b ++ c ++ d ++ nonce) t5 key t6 (9 + 2 * length ciphers + 32)
        (next s (a ++ b ++ c ++ d) t4 nonce t5 (9 + 2 * length ciphers)
        (next s (a ++ b ++ c) t3 d t4 9
        (next s (a ++ b) t2 c t3 8
        (next s a t1 b t2 4 e1 (sym la) (omega (arith, lb)) e2)
        (omega (arith, la, lb, lab)) (omega arith) e3)
        (omega (arith, la, lb, lab, labc)) (omega (arith, ld)) e4)
        (omega (arith, la, lb, ld, lab, labc, labcd)) (omega (arith, nonce_long)) e5)
        (omega (arith, la, lb, ld, lab, labc, labcd, length-append (a ++ b ++ c ++ d) nonce, nonce_long)) room e6
        ∙ ap (pasted s 0) joined)
      where
        n : ℕ
        n = 9 + 2 * length ciphers + 32 + length key

        a : List ℕ
        a = magic_of init1

        b : List ℕ
        b = big_endian 4 n

        c : List ℕ
        c = length ciphers ∷ []

        d : List ℕ
        d = cipher_bytes ciphers

        nonce_long : length nonce ≡ 32
        nonce_long = (parts t nonce key fit).nonce_long

        la : length a ≡ 4
        la = length_magic init1

        lb : length b ≡ 4
        lb = length_big 4 n

        ld : length d ≡ 2 * length ciphers
        ld = length_ciphers ciphers

        lab : length (a ++ b) ≡ length a + length b
        lab = length-append a b

        labc : length (a ++ b ++ c) ≡ length (a ++ b) + 1
        labc = length-append (a ++ b) c

        labcd : length (a ++ b ++ c ++ d) ≡ length (a ++ b ++ c) + length d
        labcd = length-append (a ++ b ++ c) d

        joined : a ++ b ++ c ++ d ++ nonce ++ key ≡ init1_bytes ciphers nonce key
        joined = joined1 nonce key n ciphers long
