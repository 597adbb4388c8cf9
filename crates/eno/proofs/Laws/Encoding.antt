-- Walks over encodings: what is read is the encoding of what is listed, and what is encoded is read.
use Prim.Native.Nat.{ℕ, zero, suc, ◌+◌, ◌-◌, ◌≤◌, ◌<◌}
use Rattle.std.proofs.Math.Path.{◌≡◌, refl, sym, ap, subst}
use Rattle.std.proofs.Common.{◌∙◌, arith, length-drop, get_or-drop, drop-drop}
use mathlib.Core.List.{List, [], ◌∷◌, ◌++◌, map}
use Rattle.std.proofs.Math.ListN.{length}
use Rattle.std.specs.Prelude.{get_or, take, drop}
use Rattle.wire.specs.Bytes.{part}
use Rattle.eno.specs.Walk.{Piece, end, fault, item, Reading, readable, faulty, before, each, items}
use Rattle.eno.proofs.Laws.Walk.{Onward}

-- what a list's rest t from place i on says of the list
module _ (s t : List ℕ) (i : ℕ) (e : drop i s ≡ t) where
  pub rest_length : length s - i ≡ length t
  rest_length = sym (length-drop i s) ∙ ap length e

  pub rest_at : (k m : ℕ) → m ≡ i + k → get_or s m 0 ≡ get_or t k 0
  rest_at k m q = ap (λ n. get_or s n 0) q ∙ (sym (get_or-drop i s k 0) ∙ ap (λ l. get_or l k 0) e)

  pub rest_drop : (k m : ℕ) → m ≡ i + k → drop m s ≡ drop k t
  rest_drop k m q = ap (λ n. drop n s) q ∙ (sym (drop-drop k i s) ∙ ap (drop k) e)

  pub rest_part : (k m n : ℕ) → m ≡ i + k → part m n s ≡ take n (drop k t)
  unfolding part
  rest_part k m n q = ap (take n) (rest_drop k m q)

module _ {F X W : Type 0} (at : ℕ → Piece F X) (s : List ℕ) (value : X → W) (encode : W → List ℕ) (Tail : List ℕ → Type 0) (Fits : W → List ℕ → Type 0) where
  -- bytes that are the encodings of values, each fit to stand before what follows it, and then a tail
  abbrev pub Encoding : List W → List ℕ → Type 0
  Encoding [] t = Tail t
  Encoding (w ∷ ws) t = (r : List ℕ) × (t ≡ encode w ++ r) × Fits w r × Encoding ws r

  -- an item's bytes are its value's encoding
  abbrev pub Decodes : Type 0
  Decodes = (i : ℕ) (x : X) (j : ℕ) → at i ≡ item x j → (drop i s ≡ encode (value x) ++ drop j s) × Fits (value x) (drop j s)

  -- an encoding is an item of that value
  abbrev pub Encodes : Type 0
  Encodes = (i : ℕ) (w : W) (r : List ℕ) → drop i s ≡ encode w ++ r → Fits w r → (x : X) × (j : ℕ) × (at i ≡ item x j) × (value x ≡ w) × (drop j s ≡ r)

  module _ (onward : Onward at (length s)) where
    module _ (ends : (i : ℕ) → at i ≡ end → Tail (drop i s)) (decodes : Decodes) where
      pub read_is_encoding : (f i : ℕ) (l : List X) → length s - i < f → items at f i ≡ readable l → Encoding (map value l) (drop i s)
      unfolding items
      read_is_encoding zero i l h p = absurd (omega arith)
      read_is_encoding (suc f) i l h p = go (λ j m. read_is_encoding f j m) (at i) refl
        where
          go : ((j : ℕ) (m : List X) → length s - j < f → items at f j ≡ readable m → Encoding (map value m) (drop j s))
              → (y : Piece F X) → at i ≡ y → Encoding (map value l) (drop i s)
          go again end e =
              let q : readable [] ≡ readable l = sym (rw (e, items)) ∙ p in
              let m : [] ≡ l = cc in
              subst (λ k. Encoding (map value k) (drop i s)) m (ends i e)
          go again (fault y) e =
              let q : items at (suc f) i ≡ faulty y = rw (e, items) in
              let z : ◌≡◌ {A = ℕ} 0 1 = cc in
              absurd (omega arith)
          go again (item x j) e = rest (items at f j) refl
            where
              q : items at (suc f) i ≡ before x (items at f j)
              q = rw (e, items)

              rest : (y : Reading F X) → items at f j ≡ y → Encoding (map value l) (drop i s)
              rest (readable m) g =
                  let u : readable (x ∷ m) ≡ readable l = sym (q ∙ ap (before x) g) ∙ p in
                  let v : x ∷ m ≡ l = cc in
                  let d = decodes i x j e in
                  let w = onward i x j e in
                  subst (λ k. Encoding (map value k) (drop i s)) v (drop j s, d.0, d.1, again j m (omega arith) g)
              rest (faulty y) g =
                  let u : faulty y ≡ readable l = sym (q ∙ ap (before x) g) ∙ p in
                  let z : ◌≡◌ {A = ℕ} 0 1 = cc in
                  absurd (omega arith)

    module _ (ended : (i : ℕ) → Tail (drop i s) → at i ≡ end) (encodes : Encodes) where
      pub encoding_is_read : (ws : List W) (f i : ℕ) → length s - i < f → Encoding ws (drop i s) → each value (items at f i) ≡ readable ws
      unfolding items
      encoding_is_read ws zero i h p = absurd (omega arith)
      encoding_is_read [] (suc f) i h p = let e = ended i p in rw (e, items)
      encoding_is_read (w ∷ ws) (suc f) i h p =
          let d = encodes i w p.0 p.1 p.2 in
          let x = d.0 in
          let j = d.1 in
          let e : at i ≡ item x j = d.2 in
          let n = onward i x j e in
          let q : items at (suc f) i ≡ before x (items at f j) = rw (e, items) in
          let again = encoding_is_read ws f j (omega arith) (subst (Encoding ws) (sym d.4) p.3) in
          ap (each value) q ∙ (swap x (items at f j) ∙ (ap (before (value x)) again ∙ ap (λ y. readable (y ∷ ws)) d.3))
        where
          swap : (x : X) (r : Reading F X) → each value (before x r) ≡ before (value x) (each value r)
          swap x (readable l) = refl
          swap x (faulty f) = refl
