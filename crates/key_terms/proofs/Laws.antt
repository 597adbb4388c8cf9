-- Laws of resumption data: it has 9 to 17 bytes, which lie within its option. Assumes nothing.
use Rattle.std.specs.Prelude.{ℕ, ◌≤◌, ◌<◌, List, [], ◌∷◌, Bool, cond, ◌&&◌, ◌||◌, ltb}
use Rattle.std.proofs.Math.Path.{◌≡◌, refl}
use Rattle.std.proofs.Common.{sym, ap, subst, true≢false, inl, arith, ltb-true, ltb-false}
use Rattle.std.proofs.Math.Bool.{true, false, not}
use Rattle.std.proofs.Math.Option.{Option, none, some}
use Rattle.eno.specs.Suboption.{Sent, suboptions, is_ill_formed}
use Rattle.eno.specs.Judge.{is_fresh, is_resumption, named, once, teps_of}
use Rattle.eno.specs.Laws.Teps.{In}
use Rattle.eno.proofs.Laws.Teps.{in_every}
use Rattle.eno.proofs.Laws.Tests.{named_there}
use Rattle.suboption.specs.Within.{Within, teps_within}
use Rattle.key_terms.specs.Terms.{Data, is_whole, data_of, resumption_data}
use Rattle.key_terms.specs.Laws.{DataFits}

resumption_length : (x : Sent) → is_resumption x ≡ true → (9 ≤ x.len) × (x.len ≤ 17)
unfolding is_resumption is_fresh
resumption_length x e = go (ltb x.byte 0x80) (ltb x.len 9) (ltb x.len 18) refl refl e
  where
    go : (a b c : Bool) → ltb x.len 9 ≡ b → ltb x.len 18 ≡ c → not (a || b) && c ≡ true → (9 ≤ x.len) × (x.len ≤ 17)
    go true b c p q r = absurd (true≢false (sym r))
    go false true c p q r = absurd (true≢false (sym r))
    go false false false p q r = absurd (true≢false (sym r))
    go false false true p q r = let l : 9 ≤ x.len = ltb-false _ _ p in let h : x.len < 18 = ltb-true _ _ q in (l, omega arith)

-- one that was sent exactly once
pub once_is : (l : List Sent) (x : Sent) → once l ≡ some x → l ≡ x ∷ []
unfolding once
once_is [] x e = let z : ◌≡◌ {A = ℕ} 0 1 = cc in absurd (omega arith)
once_is (y ∷ []) x e = let q : y ≡ x = cc in ap (λ (z : Sent). z ∷ []) q
once_is (y ∷ z ∷ l) x e = let w : ◌≡◌ {A = ℕ} 0 1 = cc in absurd (omega arith)

module _ (t : ℕ) (o : List ℕ) (start len : ℕ) where
  sent_fits : (x : Sent) → named t (teps_of o) ≡ x ∷ [] → is_resumption x ≡ true → x.start ≡ start → x.len ≡ len → DataFits o start len
  sent_fits x e r s n =
      let w : Within o x = in_every (Within o) (teps_of o) (teps_within o) x (named_there t (teps_of o) x (subst (In x) (sym e) (inl refl))).0 in
      let l : (9 ≤ x.len) × (x.len ≤ 17) = resumption_length x r in
      record { nine = omega arith; most = omega arith; within = omega arith }

  pub data_fits : some (record { start = start; len = len }) ≡ resumption_data t o → DataFits o start len
  unfolding resumption_data data_of
  data_fits e = go (is_whole o && not (is_ill_formed (suboptions o))) (once (named t (teps_of o))) refl e
    where
      here : (x : Sent) (b : Bool) → is_resumption x ≡ b → once (named t (teps_of o)) ≡ some x
          → ◌≡◌ {A = Option Data} (some (record { start = start; len = len })) (cond b (some (record { start = x.start; len = x.len })) none) → DataFits o start len
      here x true r q f =
          let same : ◌≡◌ {A = Data} (record { start = start; len = len }) (record { start = x.start; len = x.len }) = cc in
          sent_fits x (once_is _ x q) r (sym (ap (λ (d : Data). d.start) same)) (sym (ap (λ (d : Data). d.len) same))
      here x false r q f = let z : ◌≡◌ {A = ℕ} 0 1 = cc in absurd (omega arith)

      go : (b : Bool) (x : Option Sent) → once (named t (teps_of o)) ≡ x → some (record { start = start; len = len }) ≡ cond b (data_of x) none → DataFits o start len
      go false x q f = let z : ◌≡◌ {A = ℕ} 0 1 = cc in absurd (omega arith)
      go true none q f = let z : ◌≡◌ {A = ℕ} 0 1 = cc in absurd (omega arith)
      go true (some x) q f = here x (is_resumption x) refl q f
