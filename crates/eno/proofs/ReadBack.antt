-- What is written is read back: finder and suboption list give exactly what was asked, also among other options of an area.
use Prim.Native.Nat.{ℕ, suc, ◌+◌, ◌-◌, ◌≤◌}
use Rattle.std.proofs.Math.Path.{◌≡◌, refl, sym, ap, ap₂}
use Rattle.std.proofs.Common.{◌∙◌, inl, arith, ne_eqb, eqb-true, le-ltb, drop-drop}
use mathlib.Core.List.{List, [], ◌∷◌, ◌++◌, map, append-nil, head-eq_of_cons-eq}
use Rattle.std.specs.Prelude.{Bool, take}
use Rattle.std.proofs.Math.Bool.{true, false, cond}
use Rattle.std.proofs.Math.Dec.{eqb}
use Rattle.std.proofs.Math.ListN.{length, drop, length-drop}
use Rattle.std.proofs.Math.Seq.{take-nil}
use Rattle.wire.specs.Bytes.{part}
use Rattle.eno.specs.Walk.{Reading, readable, faulty, each}
use Rattle.eno.specs.Area.{Placed, Fault, found, eno_kind, enos, choose, chosen, options, finding, part_of, most_area}
use Rattle.eno.specs.Option.{Content, encode_all, option_with}
use Rattle.eno.specs.Content.{contents}
use Rattle.eno.specs.AreaGrammar.{TcpOption, no_operation, with_data, encode_option, encode_options, IsArea, value_of, option_values}
use Rattle.eno.proofs.AreaGrammar.{area_is_readable}
use Rattle.eno.proofs.SuboptionGrammar as sub_laws
use Rattle.eno.proofs.Laws.Found.{found_option}
use Rattle.eno.specs.Laws.Asked.{MayBeAsked}
use Rattle.eno.specs.ReadBack.{kind_of, NoEno}

eno_values : List TcpOption → List TcpOption
eno_values [] = []
eno_values (o ∷ l) = cond (eqb (kind_of o) eno_kind) (o ∷ eno_values l) (eno_values l)

no_eno : (l m : List TcpOption) → NoEno l → eno_values (l ++ m) ≡ eno_values m
unfolding eno_values
no_eno [] m h = refl
no_eno (o ∷ l) m h = simp (ne_eqb _ _ h.0) (no_eno l m h.1)

no_eno_alone : (l : List TcpOption) → NoEno l → eno_values l ≡ []
unfolding eno_values
no_eno_alone [] h = refl
no_eno_alone (o ∷ l) h = simp (ne_eqb _ _ h.0) (no_eno_alone l h.1)

module _ (s : List ℕ) where
  kind_of_value : (x : Placed) → kind_of (value_of s x) ≡ x.kind
  unfolding value_of
  kind_of_value x = go (eqb x.kind 1) refl
    where
      go : (b : Bool) → eqb x.kind 1 ≡ b → kind_of (cond b no_operation (with_data x.kind (part (x.start + 2) (x.len - 2) s))) ≡ x.kind
      go true e = sym (eqb-true _ _ e)
      go false e = refl

  values_of_enos : (l : List Placed) → eno_values (map (value_of s) l) ≡ map (value_of s) (enos l)
  unfolding eno_values enos
  values_of_enos [] = refl
  values_of_enos (x ∷ l) = ap (λ k. cond (eqb k eno_kind) (value_of s x ∷ eno_values (map (value_of s) l)) (eno_values (map (value_of s) l))) (kind_of_value x) ∙ go (eqb x.kind eno_kind) (values_of_enos l)
    where
      go : (b : Bool) → eno_values (map (value_of s) l) ≡ map (value_of s) (enos l)
          → cond b (value_of s x ∷ eno_values (map (value_of s) l)) (eno_values (map (value_of s) l)) ≡ map (value_of s) (cond b (x ∷ enos l) (enos l))
      go true e = ap (λ m. value_of s x ∷ m) e
      go false e = e

drop_two : (n : ℕ) (l : List ℕ) → 2 ≤ n → drop 2 (take n l) ≡ take (n - 2) (drop 2 l)
drop_two n l h = let e : n ≡ suc (suc (n - 2)) = omega arith in ap (λ k. drop 2 (take k l)) e ∙ go (n - 2) l
  where
    go : (m : ℕ) (l : List ℕ) → drop 2 (take (suc (suc m)) l) ≡ take m (drop 2 l)
    go m [] = sym (take-nil m)
    go m (x ∷ []) = sym (take-nil m)
    go m (x ∷ y ∷ l) = refl

-- the data of an ENO option by its value
data_of : (s d : List ℕ) (x : Placed) → x.kind ≡ eno_kind → value_of s x ≡ with_data eno_kind d → 2 ≤ x.len → drop 2 (part x.start x.len s) ≡ d
unfolding value_of part
data_of s d x k v two =
    let other : x.kind ≡ 1 → ⊥ = λ e. omega arith in
    let w : value_of s x ≡ with_data x.kind (part (x.start + 2) (x.len - 2) s) = simp (ne_eqb _ _ other) in
    let u : part (x.start + 2) (x.len - 2) s ≡ d = cc in
    drop_two x.len (drop x.start s) two ∙ (ap (take (x.len - 2)) (drop-drop 2 x.start s) ∙ u)

-- among other options, none of them ENO, the ENO option is the part that is handed back, in a SYN or not
module _ (s d : List ℕ) (before after : List TcpOption) (syn : Bool) (short : length s ≤ most_area) (no-before : NoEno before) (no-after : NoEno after) where
  abbrev asked : TcpOption
  asked = with_data eno_kind d

  one_eno : eno_values (before ++ asked ∷ after) ≡ asked ∷ []
  unfolding eno_values
  one_eno = no_eno before (asked ∷ after) no-before ∙ ap (λ m. asked ∷ m) (no_eno_alone after no-after)

  only : (l : List Placed) → options s ≡ readable l → map (value_of s) (enos l) ≡ asked ∷ [] → (x : Placed) × (finding s syn ≡ found x.start x.len) × (value_of s x ≡ asked)
  unfolding finding chosen choose
  only l e m = go (enos l) refl m
    where
      go : (k : List Placed) → enos l ≡ k → map (value_of s) k ≡ asked ∷ [] → (x : Placed) × (finding s syn ≡ found x.start x.len) × (value_of s x ≡ asked)
      go [] p q = let z : ◌≡◌ {A = ℕ} 0 1 = ap length q in absurd (omega arith)
      go (x ∷ []) p q = (x, simp (le-ltb _ _ short) (ap (chosen syn) e ∙ ap (choose syn) p), head-eq_of_cons-eq q)
      go (x ∷ y ∷ k) p q = let z : suc (suc (length (map (value_of s) k))) ≡ 1 = ap length q in absurd (omega arith)

  pub found_among : IsArea s (before ++ with_data eno_kind d ∷ after) → part_of s (finding s syn) ≡ eno_kind ∷ (length d + 2) ∷ d
  unfolding option_values part_of
  found_among a = go (options s) refl (area_is_readable s (before ++ asked ∷ after) a)
    where
      this : (x : Placed) → finding s syn ≡ found x.start x.len → value_of s x ≡ asked → part_of s (finding s syn) ≡ eno_kind ∷ (length d + 2) ∷ d
      this x f v =
          let i = x.start in
          let n = x.len in
          let o = found_option s syn i n f in
          let k : x.kind ≡ eno_kind = sym (kind_of_value s x) ∙ ap kind_of v in
          let two = o.two in
          let dat : drop 2 (part i n s) ≡ d = data_of s d x k v two in
          let long : n ≡ length d + 2 = (let w = o.long in let u = ap length dat in let c = length-drop 2 (part i n s) in omega arith) in
          ap (part_of s) f ∙ (o.begins ∙ ap₂ (λ m l. eno_kind ∷ m ∷ l) long dat)

      go : (r : Reading Fault Placed) → options s ≡ r → each (value_of s) r ≡ readable (before ++ asked ∷ after) → part_of s (finding s syn) ≡ eno_kind ∷ (length d + 2) ∷ d
      go (faulty f) e q = let z : ◌≡◌ {A = ℕ} 0 1 = cc in absurd (omega arith)
      go (readable l) e q =
          let m : map (value_of s) l ≡ before ++ asked ∷ after = cc in
          let w = only l e (sym (values_of_enos s l) ∙ (ap eno_values m ∙ one_eno)) in
          this w.0 w.1 w.2

-- what was asked, written as an option among other options, none of them ENO, is handed back whole
pub option_among : (asked : List Content) (s : List ℕ) (before after : List TcpOption) (syn : Bool) → length s ≤ most_area → NoEno before → NoEno after
    → IsArea s (before ++ with_data eno_kind (encode_all asked) ∷ after) → part_of s (finding s syn) ≡ option_with asked
unfolding option_with
option_among asked s before after syn short p q a = found_among s (encode_all asked) before after syn short p q a

-- and so it is as an area of its own
pub option_alone : (asked : List Content) (syn : Bool) → length (option_with asked) ≤ most_area → part_of (option_with asked) (finding (option_with asked) syn) ≡ option_with asked
unfolding option_with encode_options encode_option
option_alone asked syn short =
    option_among asked (option_with asked) [] [] syn short tt tt
    (record { tail = []; ends = inl refl; proper = ((λ e. omega arith, λ e. omega arith), tt); bytes = sym (append-nil _ ∙ append-nil _) })

-- what an offer or an answer writes is read back: finder and suboption list give exactly what was asked,
-- from the option alone and among other options, none of them ENO, of an area of at most 40 bytes
module _ (asked : List Content) (may : MayBeAsked asked) where
  pub listed_back : contents (option_with asked) ≡ readable asked
  unfolding option_with
  listed_back = sub_laws.option_is_readable (option_with asked) asked (record { proper = may.proper; bytes = refl })

  pub reads_back_alone : (syn : Bool) → contents (part_of (option_with asked) (finding (option_with asked) syn)) ≡ readable asked
  reads_back_alone syn = ap contents (option_alone asked syn may.short) ∙ listed_back

  pub reads_back_among : (s : List ℕ) (before after : List TcpOption) (syn : Bool) → length s ≤ most_area → NoEno before → NoEno after
      → IsArea s (before ++ with_data eno_kind (encode_all asked) ∷ after) → contents (part_of s (finding s syn)) ≡ readable asked
  reads_back_among s before after syn short p q a = ap contents (option_among asked s before after syn short p q a) ∙ listed_back
