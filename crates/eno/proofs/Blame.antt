-- The option that makes an area unreadable: behind whole options, a kind whose length byte is absent, below 2 or too long. Its kind byte stands at its place.
use Prim.Native.Nat.{ℕ, zero, suc, ◌+◌, ◌-◌, ◌≤◌, ◌<◌}
use Rattle.std.proofs.Math.Path.{◌≡◌, refl, sym, ap, subst}
use Rattle.std.proofs.Common.{◌∙◌, inl, inr, ⊎_elim, le-ltb}
use mathlib.Core.List.{List, [], ◌∷◌, ◌++◌, append_assoc}
use Rattle.std.specs.Prelude.{Bool, true, false, cond, ◌⊎◌, ltb, length, get_or}
use native.Mathlib.Omega.{arith}
use Rattle.std.proofs.Math.Decide.{dec_lt, ℕ_discrete}
use Rattle.std.proofs.Math.ListN.{drop, length-drop}
use Rattle.eno.specs.Walk.{Piece, end, fault, item, Reading, readable, faulty, before, items, items_of}
use Rattle.eno.specs.Area.{Placed, Fault, refused, unreadable, option_at, options, enos, choose, chosen, most_area, finding}
use Rattle.eno.specs.AreaGrammar.{TcpOption, encode_option, encode_options, AreProper, value_of}
use Rattle.eno.proofs.AreaGrammar.{decodes, encodes}
use Rattle.eno.proofs.Laws.Walk.{unroll_fault, unroll_item}
use Rattle.eno.proofs.Laws.Encoding.{rest_length}
use Rattle.eno.specs.Laws.Area.{fault_at}
use Rattle.eno.proofs.Laws.Area.{option_end, option_zero, option_one, option_short, option_over, option_long, option_onward}
use Rattle.eno.specs.Blame.{Wrong, Blamed}

-- a fault at a place
record FaultCase (s : List ℕ) (i : ℕ) (f : Fault) : Type 0 where
  pub here : i < length s
  pub kind : 1 < get_or s i 0
  pub wrong : Wrong s i
  pub is : f ≡ fault_at s i

fault_case : (s : List ℕ) (i : ℕ) (f : Fault) → option_at s i ≡ fault f → FaultCase s i f
fault_case s i f e =
    elim (dec_lt i (length s)) [
      | no h ↦ let p = option_end s i (omega arith) in let z : ◌≡◌ {A = ℕ} 0 1 = cc in absurd (omega arith)
      | yes h ↦ elim (ℕ_discrete (get_or s i 0) 0) [
        | yes k0 ↦ let p = option_zero s i h k0 in let z : ◌≡◌ {A = ℕ} 0 1 = cc in absurd (omega arith)
        | no k0 ↦ elim (ℕ_discrete (get_or s i 0) 1) [
          | yes k1 ↦ let p = option_one s i h k1 in let z : ◌≡◌ {A = ℕ} 0 1 = cc in absurd (omega arith)
          | no k1 ↦ elim (dec_lt (get_or s (i + 1) 0) 2) [
            | yes n2 ↦ let p = option_short s i h k0 k1 n2 in let q : f ≡ fault_at s i = cc in record { here = h; kind = omega arith; wrong = inl n2; is = q }
            | no n2 ↦ elim (dec_lt (length s) (i + get_or s (i + 1) 0)) [
              | yes l ↦ let p = option_over s i h k0 k1 (omega arith) l in let q : f ≡ fault_at s i = cc in record { here = h; kind = omega arith; wrong = inr l; is = q }
              | no l ↦ let p = option_long s i h k0 k1 (omega arith) (omega arith) in let z : ◌≡◌ {A = ℕ} 0 1 = cc in absurd (omega arith)
            ]
          ]
        ]
      ]
    ]

module _ (s : List ℕ) where
  -- the fault that a walk from place i on meets
  record Met (i : ℕ) (f : Fault) : Type 0 where
    pub stands : FaultCase s f.place f
    pub whole : List TcpOption
    pub proper : AreProper whole
    pub bytes : drop i s ≡ encode_options whole ++ drop f.place s

  met_here : (i : ℕ) (f : Fault) → FaultCase s i f → Met i f
  unfolding encode_options
  met_here i f c =
      let p : f.place ≡ i = ap (λ (y : Fault). y.place) c.is in
      record { stands = subst (λ m. FaultCase s m f) (sym p) c; whole = []; proper = tt; bytes = ap (λ m. drop m s) (sym p) }

  met_later : (i : ℕ) (x : Placed) (j : ℕ) (f : Fault) → option_at s i ≡ item x j → Met j f → Met i f
  unfolding encode_options
  met_later i x j f e m =
      let d = decodes s i x j e in
      record {
        stands = m.stands;
        whole = value_of s x ∷ m.whole;
        proper = (d.1, m.proper);
        bytes = d.0 ∙ (ap (λ t. encode_option (value_of s x) ++ t) m.bytes ∙ sym (append_assoc (encode_option (value_of s x)) (encode_options m.whole) (drop f.place s)));
      }

  meets : (most i : ℕ) (f : Fault) → items (option_at s) most i ≡ faulty f → Met i f
  unfolding items
  meets zero i f e = let z : ◌≡◌ {A = ℕ} 0 1 = cc in absurd (omega arith)
  meets (suc most) i f e = go (λ j. meets most j f) (option_at s i) refl
    where
      go : ((j : ℕ) → items (option_at s) most j ≡ faulty f → Met j f) → (y : Piece Fault Placed) → option_at s i ≡ y → Met i f
      go again end q = let r : readable [] ≡ faulty f = sym (rw (q, items)) ∙ e in let z : ◌≡◌ {A = ℕ} 0 1 = cc in absurd (omega arith)
      go again (fault y) q =
          let r : faulty y ≡ faulty f = sym (rw (q, items)) ∙ e in
          let t : y ≡ f = cc in
          subst (Met i) t (met_here i y (fault_case s i y q))
      go again (item x j) q = rest (items (option_at s) most j) refl
        where
          u : items (option_at s) (suc most) i ≡ before x (items (option_at s) most j)
          u = rw (q, items)

          rest : (r : Reading Fault Placed) → items (option_at s) most j ≡ r → Met i f
          rest (readable l) g = let v : readable (x ∷ l) ≡ faulty f = sym (u ∙ ap (before x) g) ∙ e in let z : ◌≡◌ {A = ℕ} 0 1 = cc in absurd (omega arith)
          rest (faulty y) g =
              let v : faulty y ≡ faulty f = sym (u ∙ ap (before x) g) ∙ e in
              let t : y ≡ f = cc in
              met_later i x j f q (again j (g ∙ ap faulty t))

  met_blamed : (f : Fault) → Met 0 f → Blamed s f
  met_blamed f m =
      let c = m.stands in
      let k : f.kind ≡ get_or s f.place 0 = ap (λ (y : Fault). y.kind) c.is in
      let n = c.kind in
      record { within = c.here; kind_there = sym k; has_length = omega arith; wrong = c.wrong; whole = m.whole; proper = m.proper; bytes = m.bytes }

  -- whole options, then a fault: the walk meets it
  walks_on : (f : Fault) → option_at s f.place ≡ fault f → f.place < length s → (l : List TcpOption) (i : ℕ) → i ≤ length s → AreProper l → drop i s ≡ encode_options l ++ drop f.place s
      → items_of (option_at s) (length s) i ≡ faulty f
  unfolding encode_options
  walks_on f e h [] i b p q =
      let a = rest_length s _ i q in
      let d = length-drop f.place s in
      let t : i ≡ f.place = omega arith in
      unroll_fault (option_at s) (length s) (option_onward s) i f (ap (option_at s) t ∙ e)
  walks_on f e h (o ∷ l) i b p q =
      let d = encodes s i o (encode_options l ++ drop f.place s) (q ∙ append_assoc (encode_option o) (encode_options l) (drop f.place s)) p.0 in
      let n = option_onward s i d.0 d.1 d.2 in
      unroll_item (option_at s) (length s) (option_onward s) i d.0 d.1 d.2 ∙ ap (before d.0) (walks_on f e h l d.1 n.1 p.1 d.4)

choose_readable : (syn : Bool) (l : List Placed) (f : Fault) → choose syn l ≡ unreadable f → ⊥
unfolding choose
choose_readable syn [] f e = let z : ◌≡◌ {A = ℕ} 0 1 = cc in omega arith
choose_readable syn (o ∷ []) f e = let z : ◌≡◌ {A = ℕ} 0 1 = cc in omega arith
choose_readable true (o ∷ p ∷ l) f e = let z : ◌≡◌ {A = ℕ} 0 1 = cc in omega arith
choose_readable false (o ∷ p ∷ l) f e = let z : ◌≡◌ {A = ℕ} 0 1 = cc in omega arith

-- what the finder says of an unreadable area names the option that makes it so
pub unreadable_blamed : (s : List ℕ) (syn : Bool) (f : Fault) → finding s syn ≡ unreadable f → Blamed s f
unfolding finding chosen options items_of
unreadable_blamed s syn f e = go (ltb most_area (length s)) e
  where
    by : (r : Reading Fault Placed) → options s ≡ r → chosen syn r ≡ unreadable f → Blamed s f
    by (readable l) q c = absurd (choose_readable syn (enos l) f c)
    by (faulty y) q c = let t : y ≡ f = cc in met_blamed s f (meets s (suc (length s - 0)) 0 f (q ∙ ap faulty t))

    go : (b : Bool) → cond b refused (chosen syn (options s)) ≡ unreadable f → Blamed s f
    go true q = let z : ◌≡◌ {A = ℕ} 0 1 = cc in absurd (omega arith)
    go false q = by (options s) refl q

-- and no other option does
pub blamed_unreadable : (s : List ℕ) (syn : Bool) (f : Fault) → length s ≤ most_area → Blamed s f → finding s syn ≡ unreadable f
unfolding finding chosen options
blamed_unreadable s syn f h b =
    let i = f.place in
    let k0 : get_or s i 0 ≡ 0 → ⊥ = λ z. let a = b.kind_there in let c = b.has_length in omega arith in
    let k1 : get_or s i 0 ≡ 1 → ⊥ = λ z. let a = b.kind_there in let c = b.has_length in omega arith in
    let same : fault_at s i ≡ f = λ j. record { place = i; kind = b.kind_there j } in
    let at : option_at s i ≡ fault f = sym (wrongly f.place b.within k0 k1 b.wrong) ∙ ap fault same in
    simp (le-ltb _ _ h) (ap (chosen syn) (walks_on s f at b.within b.whole 0 (omega arith) b.proper b.bytes))
  where
    wrongly : (i : ℕ) → i < length s → (get_or s i 0 ≡ 0 → ⊥) → (get_or s i 0 ≡ 1 → ⊥) → Wrong s i → fault (fault_at s i) ≡ option_at s i
    wrongly i w k0 k1 = ⊎_elim (λ a. option_short s i w k0 k1 a) (λ a. elim (dec_lt (get_or s (i + 1) 0) 2) [
      | yes n2 ↦ option_short s i w k0 k1 n2
      | no n2 ↦ option_over s i w k0 k1 (omega arith) a
    ])
