-- The cause that the judge gives is the right one: reason 1 with the option that makes the area unreadable, any other reason with zeros.
use Rattle.std.specs.Prelude.{ℕ, ◌≤◌, ◌<◌, refl, List, [], ◌∷◌, Bool, false, cond, length}
use Rattle.std.proofs.Math.Path.{◌≡◌}
use Rattle.std.proofs.Common.{sym, ap, subst, arith}
use Rattle.std.proofs.Math.Bool.{true}
use Rattle.std.proofs.lemmas.Bool.{false≢true}
use Rattle.std.proofs.Math.Option.{Option, none, some}
use borrow.Author.Tests.{le-ltb}
use Rattle.eno.specs.Area.{Fault, Finding, refused, unreadable, missing, found, finding, part_of, syn_option, most_area}
use Rattle.eno.specs.Cause.{numbered, blame, first_cause}
use Rattle.eno.specs.Blame.{Blamed}
use Rattle.eno.proofs.Blame.{unreadable_blamed, blamed_unreadable}
use Rattle.eno.specs.Judge.{Sides, Negotiated, Judged, refuse, plain, agreed, negotiate, first_of, is_unreadable, judge}
use Rattle.eno.specs.declared.SessionRecord.{SessionRecord}
use Rattle.eno.specs.declared.Cause.{Cause}
use Rattle.eno.specs.Causes.{CauseOf, by_option, by_reason, RightRows, area_blamed}

-- places are 0 to 39
pub cause_place : (s : List ℕ) (c : Cause) → length s ≤ most_area → CauseOf s c → c.place < 40
cause_place s c h (by_option r b) = let w = b.within in omega arith
cause_place s c h (by_reason r p k) = omega arith

pub numbered_right : (s : List ℕ) (n : ℕ) → (n ≡ 1 → ⊥) → CauseOf s (numbered n)
numbered_right s n h = by_reason h refl refl

pub blame_right : (s : List ℕ) (syn : Bool) → is_unreadable (finding s syn) ≡ true → CauseOf s (blame (finding s syn))
blame_right s syn e = go (finding s syn) refl e
  where
    go : (f : Finding) → finding s syn ≡ f → is_unreadable f ≡ true → CauseOf s (blame f)
    go refused q t = absurd (false≢true t)
    go (unreadable f) q t = by_option refl (unreadable_blamed s syn f q)
    go missing q t = absurd (false≢true t)
    go (found i n) q t = absurd (false≢true t)

-- an option that is an area of its own is readable
pub alone_readable : (s : List ℕ) → syn_option s ≡ s → is_unreadable (finding s true) ≡ false
unfolding syn_option part_of
alone_readable s e = go (finding s true) refl e
  where
    go : (f : Finding) → finding s true ≡ f → part_of s f ≡ s → is_unreadable f ≡ false
    go refused q p = refl
    go (unreadable f) q p = let w = (unreadable_blamed s true f q).within in let z : 0 ≡ length s = ap length p in absurd (omega arith)
    go missing q p = refl
    go (found i n) q p = refl

-- the first cause of a list is right of s where each row's is
pub first_right : (s : List ℕ) (l : List (Bool × Cause)) (c : Cause) → RightRows s l → first_cause l ≡ some c → CauseOf s c
unfolding first_cause
first_right s [] c r e = let z : ◌≡◌ {A = ℕ} 0 1 = cc in absurd (omega arith)
first_right s (t ∷ l) c r e = go t.0 r.0 e (first_right s l c r.1)
  where
    go : (b : Bool) → (b ≡ true → CauseOf s t.1) → cond b (some t.1) (first_cause l) ≡ some c → (first_cause l ≡ some c → CauseOf s c) → CauseOf s c
    go true p q rest = let same : t.1 ≡ c = cc in subst (CauseOf s) same (p refl)
    go false p q rest = rest q

-- where it says plain, its cause is right of s
abbrev Right : List ℕ → Judged → Type 0
Right s j = (c : Cause) → j ≡ plain c → CauseOf s c

-- each row where its test holds and none before it does, and then the last
abbrev RowByRow : List ℕ → List (Bool × Judged) → Judged → Type 0
RowByRow s [] last = Right s last
RowByRow s (t ∷ l) last = (t.0 ≡ true → Right s t.1) × (t.0 ≡ false → RowByRow s l last)

row_by_row : (s : List ℕ) (l : List (Bool × Judged)) (last : Judged) → RowByRow s l last → Right s (first_of l last)
unfolding first_of
row_by_row s [] last r = r
row_by_row s (t ∷ l) last r = go t.0 r.0 (λ e. row_by_row s l last (r.1 e))
  where
    go : (b : Bool) → (b ≡ true → Right s t.1) → (b ≡ false → Right s (first_of l last)) → Right s (cond b t.1 (first_of l last))
    go true p q = p refl
    go false p q = q refl

module _ (s : List ℕ) where
  says : (d : Cause) → CauseOf s d → Right s (plain d)
  says d r c e = let same : d ≡ c = cc in subst (CauseOf s) same r

  says_number_lem : (n : ℕ) → (n ≡ 1 → ⊥) → Right s (plain (numbered n))
  says_number_lem n h = says (numbered n) (numbered_right s n h)

  refuses : (n : ℕ) → Right s (refuse n)
  refuses n c e = let z : ◌≡◌ {A = ℕ} 0 1 = cc in absurd (omega arith)

  agreed_right : (role : ℕ) (x : Sides) (n : Option Negotiated) → Right s (agreed role x n)
  unfolding agreed
  agreed_right role x none = says_number_lem 6 (λ e. omega arith)
  agreed_right role x (some n) = λ c e. let z : ◌≡◌ {A = ℕ} 0 1 = cc in absurd (omega arith)

  negotiate_right : (role : ℕ) (x : Sides) → Right s (negotiate role x)
  unfolding negotiate
  negotiate_right role x = agreed_right role x _

module _ (mandatory : Bool) (hand : Option SessionRecord) (own peer : List ℕ) where
  own_blamed : is_unreadable (finding own true) ≡ true → Right (area_blamed own peer) (plain (blame (finding own true)))
  own_blamed e = says (area_blamed own peer) _ (subst (λ b. CauseOf (cond b own peer) (blame (finding own true))) (sym e) (blame_right own true e))

  peer_blamed : is_unreadable (finding own true) ≡ false → is_unreadable (finding peer true) ≡ true → Right (area_blamed own peer) (plain (blame (finding peer true)))
  peer_blamed f e = says (area_blamed own peer) _ (subst (λ b. CauseOf (cond b own peer) (blame (finding peer true))) (sym f) (blame_right peer true e))

  -- the judge's cause is right of the own area where that is unreadable, else of the other side's
  pub judge_right : (c : Cause) → judge mandatory hand own peer ≡ plain c → CauseOf (area_blamed own peer) c
  unfolding judge
  judge_right =
      let s = area_blamed own peer in
      let two : Right s (plain (numbered 2)) = says_number_lem s 2 (λ e. omega arith) in
      let three : Right s (plain (numbered 3)) = says_number_lem s 3 (λ e. omega arith) in
      let four : Right s (plain (numbered 4)) = says_number_lem s 4 (λ e. omega arith) in
      let five : Right s (plain (numbered 5)) = says_number_lem s 5 (λ e. omega arith) in
      row_by_row s _ _ (
        λ e. refuses s 2,
        λ a. (own_blamed, λ b. (peer_blamed b, λ c. (λ e. two, λ d. (λ e. three, λ f. (λ e. four, λ g. (λ e. five, λ h. negotiate_right s _ _)))))),
      )

  -- and of two areas of at most 40 bytes an unreadable one is always blamed, the own one first
  module _ (own_short : length own ≤ most_area) (peer_short : length peer ≤ most_area) (f : Fault) where
    pub judge_blames_own : Blamed own f → judge mandatory hand own peer ≡ plain (blame (unreadable f))
    unfolding judge first_of
    judge_blames_own b = simp (le-ltb _ _ own_short, le-ltb _ _ peer_short, blamed_unreadable own true f own_short b)

    pub judge_blames_peer : is_unreadable (finding own true) ≡ false → Blamed peer f → judge mandatory hand own peer ≡ plain (blame (unreadable f))
    unfolding judge first_of
    judge_blames_peer e b = simp (le-ltb _ _ own_short, le-ltb _ _ peer_short, e, blamed_unreadable peer true f peer_short b)
