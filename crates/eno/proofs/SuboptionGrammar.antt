-- Reading an option means its grammar: behind kind and length byte, a well-formed option is the concatenation of the encodings
-- of its listed suboptions; and no other list has that encoding.
use Prim.Native.Nat.{ℕ, suc, ◌+◌, ◌-◌, ◌≤◌, ◌<◌}
use Rattle.std.specs.Prelude.{◌≡◌}
use Rattle.std.proofs.Math.Path.{refl, sym, ap, ap₂, subst}
use Rattle.std.proofs.Common.{◌∙◌, take-append-drop, drop_of_length-le, drop-drop}
use mathlib.Core.List.{List, [], ◌∷◌, ◌++◌, map}
use Rattle.std.proofs.Math.Bool.{true, false}
use native.Mathlib.Omega.{arith}
use Rattle.std.proofs.Math.ListN.{length, get_or, take, drop, length-append}
use Rattle.std.proofs.Math.Seq.{drop-cons, drop-length, take-append_seam, drop-append_seam}
use Rattle.wire.specs.Bytes.{part}
use Rattle.wire.specs.ByteLaws.{length_part}
use Rattle.eno.specs.Walk.{end, item, readable, items_of}
use Rattle.eno.specs.Suboption.{Suboption, global, tep, suboption_at, suboptions}
use Rattle.eno.specs.Option.{Content, global_with, tep_with, encode, encode_all}
use Rattle.eno.specs.Content.{content_of, contents}
use Rattle.eno.specs.Laws.Suboption.{sent_as, SuboptionCase, a_global, a_bare, to_end, a_counted}
use Rattle.eno.proofs.Laws.Suboption.{suboption_case, suboption_onward, suboption_end, suboption_ended, suboption_global, suboption_bare, suboption_to_end, suboption_counted}
use Rattle.eno.proofs.Laws.Encoding.{rest_length, rest_at, rest_drop, rest_part, Encoding, read_is_encoding, encoding_is_read}
use Rattle.eno.specs.SuboptionGrammar.{MayStand, global_suboption, without_data, data_to_end, counted_data, AreProper, IsOption}

-- n bytes and what follows them
cut : (o : List ℕ) (i n : ℕ) → drop i o ≡ part i n o ++ drop (i + n) o
unfolding part
cut o i n = sym (take-append-drop n (drop i o)) ∙ ap (λ l. take n (drop i o) ++ l) (drop-drop n i o)

module _ (o : List ℕ) where
  abbrev Read : Suboption → ℕ → ℕ → Type 0
  Read x i j = (drop i o ≡ encode (content_of o x) ++ drop j o) × MayStand (content_of o x) (drop j o)

  decodes : (i : ℕ) (x : Suboption) (j : ℕ) → suboption_at o i ≡ item x j → Read x i j
  unfolding content_of encode part
  decodes i x j e = go (suboption_case o i x j e)
    where
      go : SuboptionCase o i x j → Read x i j
      go (a_global h g ex ej) =
          let one : suc i ≡ i + 1 = omega arith in
          rw (ex, ej) (drop-cons o i 0 h ∙ ap (λ m. get_or o i 0 ∷ drop m o) one, global_suboption g)
      go (a_bare h g t ex ej) =
          let one : suc i ≡ i + 1 = omega arith in
          rw (ex, ej) (drop-cons o i 0 h ∙ ap (λ m. get_or o i 0 ∷ drop m o) one, without_data g t)
      go (to_end h r ex ej) =
          let one : suc i ≡ i + 1 = omega arith in
          let n = length o - (i + 1) in
          let all : i + 1 + n ≡ length o = omega arith in
          let none_left : drop (length o) o ≡ [] = drop-length o in
          rw (ex, ej) (
            drop-cons o i 0 h ∙ ap (λ l. get_or o i 0 ∷ l) (ap (λ m. drop m o) one ∙ (cut o (i + 1) n ∙ ap (λ m. take n (drop (i + 1) o) ++ drop m o) all)),
            subst (λ l. MayStand (tep_with false (get_or o i 0) (take n (drop (i + 1) o))) l) (sym none_left) (data_to_end r),
          )
      go (a_counted n low high y en fits ex ej) =
          let a : i < length o = omega arith in
          let b : suc i < length o = omega arith in
          let one : suc i ≡ i + 1 = omega arith in
          let two : suc (suc i) ≡ i + 2 = omega arith in
          let w : length (take n (drop (i + 2) o)) ≡ n = length_part (i + 2) n o fits in
          let count : get_or o i 0 ≡ length (take n (drop (i + 2) o)) + 0x7f = omega arith in
          rw (ex, ej) (
            drop-cons o i 0 a
                ∙ ap₂ (λ k l. k ∷ l) count (drop-cons o (suc i) 0 b ∙ ap₂ (λ k l. k ∷ l) (ap (λ m. get_or o m 0) one) (ap (λ m. drop m o) two ∙ cut o (i + 2) n)),
            counted_data {d = take n (drop (i + 2) o)} y (omega arith) (omega arith),
          )

  abbrev Stands : Content → List ℕ → ℕ → Type 0
  Stands c r i = (x : Suboption) × (j : ℕ) × (suboption_at o i ≡ item x j) × (content_of o x ≡ c) × (drop j o ≡ r)

  encodes : (i : ℕ) (c : Content) (r : List ℕ) → drop i o ≡ encode c ++ r → MayStand c r → Stands c r i
  unfolding content_of encode part
  encodes i (global_with x) r e (global_suboption g) =
      let len = rest_length o _ i e in
      let a : get_or o i 0 ≡ x = rest_at o _ i e 0 i (omega arith) in
      (global (get_or o i 0), i + 1, sym (suboption_global o i (omega arith) (omega arith)), ap global_with a, rest_drop o _ i e 1 (i + 1) refl)
  encodes i (tep_with false x d) r e (without_data g t) =
      let len = rest_length o _ i e in
      let a : get_or o i 0 ≡ x = rest_at o _ i e 0 i (omega arith) in
      (tep (sent_as false (get_or o i 0) (i + 1) 0), i + 1, sym (suboption_bare o i (omega arith) (omega arith) (omega arith)), ap (λ y. tep_with false y []) a, rest_drop o _ i e 1 (i + 1) refl)
  encodes i (tep_with false x d) r e (data_to_end g) =
      let len = rest_length o _ i e in
      let more = length-append d [] in
      let a : get_or o i 0 ≡ x = rest_at o _ i e 0 i (omega arith) in
      let n = length o - (i + 1) in
      let count : n ≡ length d = omega arith in
      let dat : part (i + 1) n o ≡ d = rest_part o _ i e 1 (i + 1) n refl ∙ (ap (λ m. take m (d ++ [])) count ∙ take-append_seam d []) in
      (tep (sent_as false (get_or o i 0) (i + 1) n), length o, sym (suboption_to_end o i (omega arith) (omega arith)), ap₂ (λ y l. tep_with false y l) a dat, drop-length o)
  encodes i (tep_with true x d) r e (counted_data g few many) =
      let len = rest_length o _ i e in
      let more = length-append d r in
      let a : get_or o i 0 ≡ length d + 0x7f = rest_at o _ i e 0 i (omega arith) in
      let b : get_or o (i + 1) 0 ≡ x = rest_at o _ i e 1 (i + 1) refl in
      let n = length d in
      let dat : part (i + 2) n o ≡ d = rest_part o _ i e 2 (i + 2) n refl ∙ take-append_seam d r in
      let past : drop (i + 2 + n) o ≡ r = rest_drop o _ i e (suc (suc n)) (i + 2 + n) (omega arith) ∙ drop-append_seam d r in
      (tep (sent_as true (get_or o (i + 1) 0) (i + 2) n), i + 2 + n, sym (suboption_counted o i (omega arith) (omega arith) (omega arith) (omega arith) (i + 2) n refl (omega arith) (omega arith)), ap₂ (λ y l. tep_with true y l) b dat, past)

  abbrev Ends : List ℕ → Type 0
  Ends t = t ≡ []

  ends : (i : ℕ) → suboption_at o i ≡ end → Ends (drop i o)
  ends i e = drop_of_length-le o {i = i} (suboption_ended o i e)

  ended : (i : ℕ) → Ends (drop i o) → suboption_at o i ≡ end
  ended i e = let len = rest_length o _ i e in sym (suboption_end o i (omega arith))

  -- step by step, and as a whole
  Steps : List Content → List ℕ → Type 0
  Steps l t = Encoding (suboption_at o) o (content_of o) encode Ends MayStand l t

  whole : (l : List Content) (t : List ℕ) → Steps l t → AreProper l × (t ≡ encode_all l)
  unfolding Steps encode_all
  whole [] t e = (tt, e)
  whole (c ∷ l) t e =
      let r = whole l e.0 e.3 in
      ((subst (MayStand c) r.1 e.2, r.0), e.1 ∙ ap (λ u. encode c ++ u) r.1)

  steps : (l : List Content) (t : List ℕ) → AreProper l → t ≡ encode_all l → Steps l t
  unfolding Steps encode_all
  steps [] t p b = b
  steps (c ∷ l) t p b = (encode_all l, b, p.0, steps l (encode_all l) p.1 refl)

-- a well-formed option is the concatenation of the encodings of its listed suboptions
pub readable_is_option : (o : List ℕ) (l : List Suboption) → suboptions o ≡ readable l → IsOption o (map (content_of o) l)
unfolding suboptions items_of Steps
readable_is_option o l e =
    let w =
    whole o (map (content_of o) l) (drop 2 o)
    (read_is_encoding (suboption_at o) o (content_of o) encode (Ends o) MayStand (suboption_onward o) (ends o) (decodes o) (suc (length o - 2)) 2 l (omega arith) e) in
    record { proper = w.0; bytes = w.1 }

-- and an option that is the encodings of a list is read as that list: no other list has that encoding
pub option_is_readable : (o : List ℕ) (l : List Content) → IsOption o l → contents o ≡ readable l
unfolding contents suboptions items_of Steps
option_is_readable o l a =
    encoding_is_read (suboption_at o) o (content_of o) encode (Ends o) MayStand (suboption_onward o) (ended o) (encodes o) l (suc (length o - 2)) 2 (omega arith)
    (steps o l (drop 2 o) a.proper a.bytes)

pub one_list : (o : List ℕ) (l m : List Content) → IsOption o l → IsOption o m → l ≡ m
one_list o l m a b =
    let e : readable l ≡ readable m = sym (option_is_readable o l a) ∙ option_is_readable o m b in
    cc
