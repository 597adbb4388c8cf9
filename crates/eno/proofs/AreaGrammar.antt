-- Reading an option area means its grammar: a readable area is the concatenation of the encodings of its listed options,
-- then nothing or an end mark with anything; and no other list has that encoding.
use Prim.Native.Nat.{ℕ, suc, ◌+◌, ◌-◌, ◌≤◌, ◌<◌}
use Rattle.std.specs.Prelude.{◌≡◌, ◌⊎◌}
use Rattle.std.proofs.Math.Path.{refl, sym, ap, ap₂, subst}
use Rattle.std.proofs.Common.{◌∙◌, inl, inr, ⊎_elim, eq-eqb, ne_eqb, take-append-drop, drop_of_length-le, drop-cons, drop-drop}
use mathlib.Core.List.{List, [], ◌∷◌, ◌++◌, map, append_assoc}
use native.Mathlib.Omega.{arith}
use Rattle.std.proofs.Math.Decide.{dec_lt}
use Rattle.std.proofs.Math.ListN.{length, get_or, take, drop, length-append}
use Rattle.std.proofs.Math.Seq.{take-append_seam, drop-append_seam}
use Rattle.wire.specs.Bytes.{part}
use Rattle.wire.specs.ByteLaws.{length_part}
use Rattle.eno.specs.Walk.{end, item, readable, items_of}
use Rattle.eno.specs.Area.{Placed, option_at, options}
use Rattle.eno.specs.Laws.Area.{placed_at, OptionCase, one_byte, with_length_lem}
use Rattle.eno.proofs.Laws.Area.{option_case, option_onward, option_end, option_zero, option_one, option_long, option_ended}
use Rattle.eno.proofs.Laws.Encoding.{rest_length, rest_at, rest_drop, rest_part, Encoding, read_is_encoding, encoding_is_read}
use Rattle.eno.specs.AreaGrammar.{TcpOption, no_operation, with_data, encode_option, encode_options, IsProper, AreProper, EndsArea, IsArea, value_of, option_values}

-- kind, length byte and data, as they stand in the area
split_option : (s : List ℕ) (i n : ℕ) → 2 ≤ n → i + n ≤ length s → drop i s ≡ get_or s i 0 ∷ get_or s (i + 1) 0 ∷ (part (i + 2) (n - 2) s ++ drop (i + n) s)
unfolding part
split_option s i n two fits =
    let a : i < length s = omega arith in
    let b : suc i < length s = omega arith in
    let e : suc (suc i) ≡ i + 2 = omega arith in
    let f : i + 2 + (n - 2) ≡ i + n = omega arith in
    let one : suc i ≡ i + 1 = omega arith in
    drop-cons s i 0 a
    ∙ ap (λ l. get_or s i 0 ∷ l)
    (drop-cons s (suc i) 0 b
    ∙ ap₂ (λ x l. x ∷ l) (ap (λ m. get_or s m 0) one)
    (ap (λ m. drop m s) e ∙ (sym (take-append-drop (n - 2) (drop (i + 2) s)) ∙ ap (λ l. take (n - 2) (drop (i + 2) s) ++ l) (drop-drop (n - 2) (i + 2) s ∙ ap (λ m. drop m s) f))))

module _ (s : List ℕ) where
  abbrev Fit : TcpOption → List ℕ → Type 0
  Fit o r = IsProper o

  pub decodes : (i : ℕ) (x : Placed) (j : ℕ) → option_at s i ≡ item x j → (drop i s ≡ encode_option (value_of s x) ++ drop j s) × IsProper (value_of s x)
  unfolding value_of encode_option
  decodes i x j e = go (option_case s i x j e)
    where
      go : OptionCase s i x j → (drop i s ≡ encode_option (value_of s x) ++ drop j s) × IsProper (value_of s x)
      go (one_byte h k ex ej) =
          let v : value_of s (placed_at s i 1) ≡ no_operation = simp (eq-eqb _ _ k) in
          let one : suc i ≡ i + 1 = omega arith in
          rw (ex, ej, v) (drop-cons s i 0 h ∙ ap₂ (λ a m. a ∷ drop m s) k one, tt)
      go (with_length_lem k0 k1 two fits ex ej) =
          let n = get_or s (i + 1) 0 in
          let v : value_of s (placed_at s i n) ≡ with_data (get_or s i 0) (part (i + 2) (n - 2) s) = simp (ne_eqb _ _ k1) in
          let w = length_part (i + 2) (n - 2) s (omega arith) in
          let len : n ≡ length (part (i + 2) (n - 2) s) + 2 = omega arith in
          rw (ex, ej, v) (split_option s i n two fits ∙ ap (λ m. get_or s i 0 ∷ m ∷ (part (i + 2) (n - 2) s ++ drop (i + n) s)) len, (k0, k1))

  pub encodes : (i : ℕ) (o : TcpOption) (r : List ℕ) → drop i s ≡ encode_option o ++ r → IsProper o
      → (x : Placed) × (j : ℕ) × (option_at s i ≡ item x j) × (value_of s x ≡ o) × (drop j s ≡ r)
  unfolding value_of encode_option
  encodes i no_operation r e p =
      let len = rest_length s _ i e in
      let k : get_or s i 0 ≡ 1 = rest_at s _ i e 0 i (omega arith) in
      (placed_at s i 1, i + 1, sym (option_one s i (omega arith) k), simp (eq-eqb _ _ k), rest_drop s _ i e 1 (i + 1) refl)
  encodes i (with_data k d) r e p =
      let len = rest_length s _ i e in
      let more = length-append d r in
      let a : get_or s i 0 ≡ k = rest_at s _ i e 0 i (omega arith) in
      let b : get_or s (i + 1) 0 ≡ length d + 2 = rest_at s _ i e 1 (i + 1) refl in
      let n = get_or s (i + 1) 0 in
      let k0 : get_or s i 0 ≡ 0 → ⊥ = λ q. p.0 (sym a ∙ q) in
      let k1 : get_or s i 0 ≡ 1 → ⊥ = λ q. p.1 (sym a ∙ q) in
      let less : n - 2 ≡ length d = omega arith in
      let dat : part (i + 2) (n - 2) s ≡ d = rest_part s _ i e 2 (i + 2) (n - 2) refl ∙ (ap (λ m. take m (d ++ r)) less ∙ take-append_seam d r) in
      let v : value_of s (placed_at s i n) ≡ with_data (get_or s i 0) (part (i + 2) (n - 2) s) = simp (ne_eqb _ _ k1) in
      let two : n ≡ suc (suc (length d)) = omega arith in
      let past : drop (i + n) s ≡ r = rest_drop s _ i e (suc (suc (length d))) (i + n) (omega arith) ∙ drop-append_seam d r in
      (placed_at s i n, i + n, sym (option_long s i (omega arith) k0 k1 (omega arith) (omega arith)), v ∙ ap₂ with_data a dat, past)

  ends : (i : ℕ) → option_at s i ≡ end → EndsArea (drop i s)
  ends i e = elim (dec_lt i (length s)) [
    | no h ↦ inl (drop_of_length-le s {i = i} (omega arith))
    | yes h ↦ inr (drop (suc i) s, drop-cons s i 0 h ∙ ap (λ k. k ∷ drop (suc i) s) (option_ended s i h e))
  ]

  ended : (i : ℕ) → EndsArea (drop i s) → option_at s i ≡ end
  ended i = ⊎_elim
      (λ e. let len = rest_length s _ i e in sym (option_end s i (omega arith)))
      (λ w. let len = rest_length s _ i w.1 in sym (option_zero s i (omega arith) (rest_at s _ i w.1 0 i (omega arith))))

  -- step by step, and as a whole
  Steps : List TcpOption → List ℕ → Type 0
  Steps l t = Encoding (option_at s) s (value_of s) encode_option EndsArea Fit l t

  whole : (l : List TcpOption) (t : List ℕ) → Steps l t → IsArea t l
  unfolding Steps encode_options
  whole [] t e = record { tail = t; ends = e; proper = tt; bytes = refl }
  whole (o ∷ l) t e =
      let r = whole l e.0 e.3 in
      record {
        tail = r.tail;
        ends = r.ends;
        proper = (e.2, r.proper);
        bytes = e.1 ∙ (ap (λ u. encode_option o ++ u) r.bytes ∙ sym (append_assoc (encode_option o) (encode_options l) r.tail));
      }

  steps : (l : List TcpOption) (t tail : List ℕ) → EndsArea tail → AreProper l → t ≡ encode_options l ++ tail → Steps l t
  unfolding Steps encode_options
  steps [] t tail e p b = subst EndsArea (sym b) e
  steps (o ∷ l) t tail e p b =
      (encode_options l ++ tail, b ∙ append_assoc (encode_option o) (encode_options l) tail, p.0, steps l (encode_options l ++ tail) tail e p.1 refl)

-- a readable area is the concatenation of the encodings of its listed options, then nothing or an end mark with anything
pub readable_is_area : (s : List ℕ) (l : List Placed) → options s ≡ readable l → IsArea s (map (value_of s) l)
unfolding options items_of Steps
readable_is_area s l e =
    whole s (map (value_of s) l) s
    (read_is_encoding (option_at s) s (value_of s) encode_option EndsArea (Fit s) (option_onward s) (ends s) (decodes s) (suc (length s - 0)) 0 l (omega arith) e)

-- and an area that is the encodings of a list is read as that list: no other list has that encoding
pub area_is_readable : (s : List ℕ) (l : List TcpOption) → IsArea s l → option_values s ≡ readable l
unfolding option_values options items_of Steps
area_is_readable s l a =
    encoding_is_read (option_at s) s (value_of s) encode_option EndsArea (Fit s) (option_onward s) (ended s) (encodes s) l (suc (length s - 0)) 0 (omega arith)
    (steps s l s a.tail a.ends a.proper a.bytes)

pub one_list : (s : List ℕ) (l m : List TcpOption) → IsArea s l → IsArea s m → l ≡ m
one_list s l m a b =
    let e : readable l ≡ readable m = sym (area_is_readable s l a) ∙ area_is_readable s m b in
    cc
