-- What the judge has seen where it says resumed: two whole options, each with one resumption suboption of that TEP, and their halves. Assumes nothing.
use Prim.Native.Nat.{ℕ, ◌+◌, ◌%◌, ◌≤◌, ◌<◌}
use Rattle.std.proofs.Math.Path.{◌≡◌, refl, ap, subst}
use Rattle.std.proofs.Common.{sym, ◌∙◌, true≢false, eq-eqb, le-leb}
use mathlib.Core.List.{List, [], ◌∷◌, ◌++◌}
use Rattle.std.proofs.Math.Bool.{Bool, true, false, cond}
use Rattle.std.specs.Prelude.{◌&&◌, ◌||◌, eqb, length, get_or}
use Rattle.std.proofs.Math.Option.{Option, none, some}
use native.Mathlib.Omega.{arith}
use Rattle.wire.specs.Bytes.{part, same_bytes}
use Rattle.wire.specs.ByteLaws.{same_eq}
use Rattle.eno.specs.declared.Cause.{Cause}
use Rattle.eno.specs.declared.SessionRecord.{SessionRecord}
use Rattle.eno.specs.Area.{Finding, refused, unreadable, missing, found, finding, part_of, syn_option}
use Rattle.eno.specs.Suboption.{Sent, name, suboptions, is_ill_formed, role_bit}
use Rattle.eno.specs.Session.{sent_half, expected_half}
use Rattle.eno.specs.Tep.{is_known}
use Rattle.eno.specs.Judge as judged
use Rattle.eno.specs.Judge.{Way, fresh, resumed, Judged, encrypt, Sides, Negotiated, negotiated_by, or_else, last_valid, is_fresh, is_bad, is_resumption, half_of, matches, named, once, teps_of, of_a, of_b, way_of, way_of_both, validity, agreed, negotiate, first_of, is_unreadable, is_missing, too_long, role_of, judge}
use Rattle.eno.specs.Laws.Walk.{Every}
use Rattle.eno.proofs.Laws.Asked.{and_true}
use Rattle.eno.specs.Laws.Tests.{is_refused}
use Rattle.eno.proofs.Laws.Tests.{long_refused}
use Rattle.eno.specs.Laws.Found.{FoundOption}
use Rattle.eno.proofs.Laws.Found.{found_option}
use Rattle.key_terms.specs.Terms.{is_whole}
use Rattle.key_terms.proofs.Laws.{once_is}
use Rattle.key_terms_resumed.specs.Judged.{Seen}

or_false : (a b : Bool) → a || b ≡ false → (a ≡ false) × (b ≡ false)
or_false true b e = absurd (true≢false e)
or_false false b e = (refl, e)

-- an option that was found is whole
whole_found : (s : List ℕ) (i n : ℕ) → FoundOption s i n → is_whole (part i n s) ≡ true
unfolding is_whole
whole_found s i n f =
    let b = f.begins in
    let k : get_or (part i n s) 0 0 ≡ 0x45 = ap (λ o. get_or o 0 0) b in
    let l : get_or (part i n s) 1 0 ≡ n = ap (λ o. get_or o 1 0) b in
    let e : length (part i n s) ≡ n = f.long in
    let w = f.within in
    let t = f.short in
    let m : length (part i n s) ≤ 40 = omega arith in
    rw (eq-eqb _ _ k, eq-eqb _ _ (l ∙ sym e), le-leb _ _ m)

whole_option : (s : List ℕ) → too_long s ≡ false → is_unreadable (finding s true) ≡ false → is_missing (finding s true) ≡ false → is_whole (syn_option s) ≡ true
unfolding syn_option part_of
whole_option s l u m = go (finding s true) refl
  where
    go : (f : Finding) → finding s true ≡ f → is_whole (part_of s f) ≡ true
    go refused e = absurd (true≢false (sym (long_refused s ∙ ap is_refused e) ∙ l))
    go (unreadable x) e = absurd (true≢false (sym (ap is_unreadable e) ∙ u))
    go missing e = absurd (true≢false (sym (ap is_missing e) ∙ m))
    go (found i n) e = whole_found s i n (found_option s true i n e)

-- the way of two suboptions
module _ (x : SessionRecord) (own peer : List ℕ) (is_b : Bool) where
  abbrev sides : Sides
  sides = record { hand = some x; own = own; peer = peer; own_is_b = is_b }

  pub record Fitting (mine theirs : Sent) : Type 0 where
    pub mine_resumes : is_resumption mine ≡ true
    pub theirs_resumes : is_resumption theirs ≡ true
    pub mine_half : half_of own mine ≡ sent_half x
    pub theirs_half : half_of peer theirs ≡ expected_half x

  way_resumed : (t : ℕ) (mine theirs : Sent) → way_of sides t mine theirs ≡ some resumed → Fitting mine theirs
  unfolding way_of matches
  way_resumed t mine theirs e =
      go (is_bad mine || is_bad theirs) (is_fresh (of_b is_b mine theirs)) (is_resumption mine && is_resumption theirs && matches (some x) t (half_of own mine) (half_of peer theirs)) refl e
    where
      fits : is_resumption mine && is_resumption theirs && matches (some x) t (half_of own mine) (half_of peer theirs) ≡ true → Fitting mine theirs
      fits q =
          let a = and_true (is_resumption mine && is_resumption theirs) (matches (some x) t (half_of own mine) (half_of peer theirs)) q in
          let b = and_true (is_resumption mine) (is_resumption theirs) a.0 in
          let c = and_true (eqb x.tep t && same_bytes (half_of own mine) (sent_half x)) (same_bytes (half_of peer theirs) (expected_half x)) a.1 in
          let d = and_true (eqb x.tep t) (same_bytes (half_of own mine) (sent_half x)) c.0 in
          record { mine_resumes = b.0; theirs_resumes = b.1; mine_half = same_eq _ _ d.1; theirs_half = same_eq _ _ c.1 }

      go : (b f m : Bool) → is_resumption mine && is_resumption theirs && matches (some x) t (half_of own mine) (half_of peer theirs) ≡ m
          → cond b none (cond f (some fresh) (cond m (some resumed) none)) ≡ some resumed → Fitting mine theirs
      go true f m q e = let z : ◌≡◌ {A = ℕ} 0 1 = cc in absurd (omega arith)
      go false true m q e = let w : fresh ≡ resumed = cc in let z : ◌≡◌ {A = ℕ} 0 1 = cc in absurd (omega arith)
      go false false true q e = fits q
      go false false false q e = let z : ◌≡◌ {A = ℕ} 0 1 = cc in absurd (omega arith)

  pub record Valid (t : ℕ) : Type 0 where
    pub known : is_known t ≡ true
    pub mine : Sent
    pub theirs : Sent
    pub mine_is : named t (teps_of own) ≡ mine ∷ []
    pub theirs_is : named t (teps_of peer) ≡ theirs ∷ []
    pub fitting : Fitting mine theirs

  valid_resumed : (t : ℕ) → validity sides t ≡ some resumed → Valid t
  unfolding validity way_of_both
  valid_resumed t e = go (is_known t) refl (once (named t (teps_of own))) refl (once (named t (teps_of peer))) refl e
    where
      go : (k : Bool) → is_known t ≡ k → (a : Option Sent) → once (named t (teps_of own)) ≡ a → (b : Option Sent) → once (named t (teps_of peer)) ≡ b
          → cond k (way_of_both sides t a b) none ≡ some resumed → Valid t
      go false q a p b r e = let z : ◌≡◌ {A = ℕ} 0 1 = cc in absurd (omega arith)
      go true q none p b r e = let z : ◌≡◌ {A = ℕ} 0 1 = cc in absurd (omega arith)
      go true q (some m) p none r e = let z : ◌≡◌ {A = ℕ} 0 1 = cc in absurd (omega arith)
      go true q (some m) p (some n) r e =
          record { known = q; mine = m; theirs = n; mine_is = once_is _ m p; theirs_is = once_is _ n r; fitting = way_resumed t m n e }

  -- the negotiated TEP is a valid one
  last_valid_lem : (l : List Sent) (n : Negotiated) → last_valid (validity sides) l ≡ some n → n.way ≡ resumed → Valid (n.byte % 128)
  unfolding last_valid
  last_valid_lem [] n e w = let z : ◌≡◌ {A = ℕ} 0 1 = cc in absurd (omega arith)
  last_valid_lem (y ∷ l) n e w = go (λ q. last_valid_lem l n q w) (last_valid (validity sides) l) refl (validity sides (name y)) refl e
    where
      here : (v : Way) → validity sides (name y) ≡ some v → ◌≡◌ {A = Option Negotiated} (some (record { byte = y.byte; way = v })) (some n) → Valid (n.byte % 128)
      here v q f =
          let same : ◌≡◌ {A = Negotiated} (record { byte = y.byte; way = v }) n = cc in
          let r : v ≡ resumed = ap (λ (z : Negotiated). z.way) same ∙ w in
          subst (λ k. Valid (k % 128)) (ap (λ (z : Negotiated). z.byte) same) (valid_resumed (name y) (q ∙ ap (λ (z : Way). some z) r))

      go : (last_valid (validity sides) l ≡ some n → Valid (n.byte % 128)) → (m : Option Negotiated) → last_valid (validity sides) l ≡ m → (v : Option Way) → validity sides (name y) ≡ v → or_else m (negotiated_by y v) ≡ some n → Valid (n.byte % 128)
      go rest (some k) q v r f = rest (q ∙ f)
      go rest none q none r f = let z : ◌≡◌ {A = ℕ} 0 1 = cc in absurd (omega arith)
      go rest none q (some v) r f = here v r f

-- the judge says resumed
module _ (x : SessionRecord) (role byte : ℕ) (t : List ℕ) where
  abbrev Encrypts : Judged → Type 0
  Encrypts j = j ≡ encrypt role byte resumed t

  not_refused : (n : ℕ) → Encrypts (judged.refuse n) → ⊥
  not_refused n e = let z : ◌≡◌ {A = ℕ} 0 1 = cc in omega arith

  not_plain : (n : Cause) → Encrypts (judged.plain n) → ⊥
  not_plain n e = let z : ◌≡◌ {A = ℕ} 0 1 = cc in omega arith

  -- no test held
  all_passed : (l : List (Bool × Judged)) (last : Judged) → Every (λ (y : Bool × Judged). Encrypts y.1 → ⊥) l → Encrypts (first_of l last) → Every (λ (y : Bool × Judged). y.0 ≡ false) l × Encrypts last
  unfolding first_of
  all_passed [] last z e = (tt, e)
  all_passed (y ∷ l) last z e = go (λ f. all_passed l last z.1 f) y.0 refl e
    where
      go : (Encrypts (first_of l last) → Every (λ (y : Bool × Judged). y.0 ≡ false) l × Encrypts last) → (b : Bool) → y.0 ≡ b → Encrypts (cond b y.1 (first_of l last)) → ((y.0 ≡ false) × Every (λ (y : Bool × Judged). y.0 ≡ false) l) × Encrypts last
      go rest true q f = absurd (z.0 f)
      go rest false q f = let r = rest f in ((q, r.0), r.1)

  record Agreed (own peer : List ℕ) (b : ℕ) : Type 0 where
    role_is : b ≡ role
    valid : Valid x own peer (eqb b 1) (byte % 128)
    transcript_is : of_a (eqb b 1) own peer ++ of_b (eqb b 1) own peer ≡ t

  agreed_resumed : (own peer : List ℕ) (b : ℕ) → Encrypts (negotiate b (sides x own peer (eqb b 1))) → Agreed own peer b
  unfolding negotiate agreed
  agreed_resumed own peer b e = go (last_valid (validity (sides x own peer (eqb b 1))) (teps_of (of_b (eqb b 1) own peer))) refl e
    where
      go : (m : Option Negotiated) → last_valid (validity (sides x own peer (eqb b 1))) (teps_of (of_b (eqb b 1) own peer)) ≡ m → Encrypts (agreed b (sides x own peer (eqb b 1)) m) → Agreed own peer b
      go none q f = absurd (not_plain _ f)
      go (some n) q f =
          let r : b ≡ role = cc in
          let y : n.byte ≡ byte = cc in
          let w : n.way ≡ resumed = cc in
          let u : of_a (eqb b 1) own peer ++ of_b (eqb b 1) own peer ≡ t = cc in
          record { role_is = r; valid = subst (λ k. Valid x own peer (eqb b 1) (k % 128)) y (last_valid_lem x own peer (eqb b 1) _ n q w); transcript_is = u }

  -- role 0 or 1, the two options and the transcript
  pub record JudgedSo (own peer : List ℕ) : Type 0 where
    pub role_low : role ≤ 1
    pub options_are : Seen own peer byte x
    pub transcript_is : of_a (eqb role 1) own peer ++ of_b (eqb role 1) own peer ≡ t

  role_bit_lem : (o : List ℕ) → role_of o ≤ 1
  unfolding role_of role_bit
  role_bit_lem o = omega arith

  pub judged_so : (mandatory : Bool) (ownArea peerArea : List ℕ) → judge mandatory (some x) ownArea peerArea ≡ encrypt role byte resumed t → JudgedSo (syn_option ownArea) (syn_option peerArea)
  unfolding judge
  judged_so mandatory ownArea peerArea e =
      let own : List ℕ = syn_option ownArea in
      let peer : List ℕ = syn_option peerArea in
      let p = all_passed _ _ (not_refused 2, (not_plain _, (not_plain _, (not_plain _, (not_plain _, (not_plain _, (not_plain _, tt))))))) e in
      let long = or_false (too_long ownArea) (too_long peerArea) p.0.0 in
      let u = p.0.1.0 in
      let v = p.0.1.1.0 in
      let m = or_false (is_missing (finding ownArea true)) (is_missing (finding peerArea true)) p.0.1.1.1.0 in
      let i = or_false (is_ill_formed (suboptions own)) (is_ill_formed (suboptions peer)) p.0.1.1.1.1.0 in
      let a = agreed_resumed own peer (role_of own) p.1 in
      let g : Valid x own peer (eqb (role_of own) 1) (byte % 128) = a.valid in
      let f : Fitting x own peer (eqb (role_of own) 1) g.mine g.theirs = g.fitting in
      record {
        role_low = subst (λ k. k ≤ 1) a.role_is (role_bit_lem own);
        options_are = record {
          own_whole = whole_option ownArea long.0 u m.0;
          peer_whole = whole_option peerArea long.1 v m.1;
          own_well = i.0;
          peer_well = i.1;
          known = g.known;
          mine = g.mine;
          theirs = g.theirs;
          mine_is = g.mine_is;
          theirs_is = g.theirs_is;
          mine_resumes = f.mine_resumes;
          theirs_resumes = f.theirs_resumes;
          mine_half = f.mine_half;
          theirs_half = f.theirs_half;
        };
        transcript_is = subst (λ k. of_a (eqb k 1) own peer ++ of_b (eqb k 1) own peer ≡ t) a.role_is a.transcript_is;
      }
