-- The way of a TEP by the two entries is its validity. Assumes nothing.
use Rattle.std.specs.Prelude.{ℕ, zero, suc, ◌+◌, ◌-◌, ◌≤◌, ◌<◌, ◌≡◌, Bool, ◌&&◌, ◌||◌, ◌⊎◌, ltb, leb, length, get_or}
use Rattle.std.proofs.Math.Path.{refl, ap, ap₂}
use Rattle.std.proofs.Common.{sym, ◌∙◌, subst, inl, inr, ⊎_elim, arith, eq-eqb, ne_eqb, lt-ltb, le-ltb, le-leb, leb-true, eqb-true}
use mathlib.Core.List.{List, [], ◌∷◌}
use Rattle.std.proofs.Math.Bool.{true, false, cond, not}
use Rattle.std.proofs.lemmas.Bool.{false≢true, lt-leb}
use Rattle.std.proofs.Math.Option.{Option, none, some}
use Rattle.std.proofs.Math.Decide.{dec_lt}
use Rattle.std.proofs.Math.Dec.{eqb}
use Rattle.wire.specs.Bytes.{part, same_bytes}
use Rattle.eno.specs.Suboption.{Sent, name}
use Rattle.eno.specs.Tep.{is_known}
use Rattle.eno.specs.Session.{sent_half, expected_half}
use Rattle.eno.specs.Judge.{is_fresh, is_bad, is_resumption, half_of, Way, fresh, resumed, matches, named, once, of_a, of_b, Sides, way_of, way_of_both, teps_of, validity}
use Rattle.eno.proofs.Laws.Tep.{known_yes}
use Rattle.eno.proofs.Laws.Tests.{known_range}
use Rattle.eno.specs.Laws.Teps.{In}
use Rattle.eno.specs.declared.SessionRecord.{SessionRecord}
use Rattle.suboptions.specs.Summary.{never, entry_from, entries_of, as_sent}
use Rattle.suboptions.proofs.Laws.{entry_of_lem, entry_times, entry_once}
use Rattle.suboptions.specs.declared.Entry.{Entry}
use Rattle.valid_tep.specs.Best.{starts_b, matches_at, way_of_entries, entry_at, ways_of, starts_of}

-- the two ways of asking come to the same, whatever A's and B's data are: f fresh, g 18 bytes or more, m matching
way_b_mine : (fb gb fa ga m : Bool) → cond (not (not fa && ga) && not (not fb && gb)) (cond fb (some fresh) (cond (not fa && m) (some resumed) none)) none
    ≡ cond ((not fb && gb) || (not fa && ga)) none (cond fb (some fresh) (cond ((not fb && not gb) && (not fa && not ga) && m) (some resumed) none))
way_b_mine true gb true ga m = refl
way_b_mine true gb false true m = refl
way_b_mine true gb false false m = refl
way_b_mine false true true ga m = refl
way_b_mine false true false true m = refl
way_b_mine false true false false m = refl
way_b_mine false false true ga m = refl
way_b_mine false false false true m = refl
way_b_mine false false false false m = refl

way_b_theirs : (fb gb fa ga m : Bool) → cond (not (not fa && ga) && not (not fb && gb)) (cond fb (some fresh) (cond (not fa && m) (some resumed) none)) none
    ≡ cond ((not fa && ga) || (not fb && gb)) none (cond fb (some fresh) (cond ((not fa && not ga) && (not fb && not gb) && m) (some resumed) none))
way_b_theirs true gb true ga m = refl
way_b_theirs true gb false true m = refl
way_b_theirs true gb false false m = refl
way_b_theirs false true true ga m = refl
way_b_theirs false true false true m = refl
way_b_theirs false true false false m = refl
way_b_theirs false false true ga m = refl
way_b_theirs false false false true m = refl
way_b_theirs false false false false m = refl

not_long : (n : ℕ) → ltb n 18 ≡ not (leb 18 n)
not_long n = elim (dec_lt n 18) [
  | yes h ↦ simp (lt-ltb _ _ h, lt-leb _ _ h)
  | no h ↦ let k : 18 ≤ n = omega arith in simp (le-ltb _ _ k, le-leb _ _ k)
]

and_swap : (t x y : Bool) → t && x && y ≡ t && y && x
and_swap true true true = refl
and_swap true true false = refl
and_swap true false true = refl
and_swap true false false = refl
and_swap false x y = refl

module _ (hand : Option SessionRecord) (own peer : List ℕ) where
  abbrev pub sides : Bool → Sides
  sides own_is_b = record { hand = hand; own = own; peer = peer; own_is_b = own_is_b }

  -- an entry of a TEP that was sent once
  abbrev once_as : Sent → Entry
  once_as x = record { times = 1; byte = x.byte; start = x.start; len = x.len }

  match_b_mine : (h : Option SessionRecord) (t : ℕ) (x y : Sent) → matches_at peer own h true t y.start x.start ≡ matches h t (half_of own x) (half_of peer y)
  unfolding matches_at matches half_of starts_b sent_half expected_half
  match_b_mine none t x y = refl
  match_b_mine (some r) t x y = go (eqb r.role 0) refl
    where
      go : (b : Bool) → eqb r.role 0 ≡ b → matches_at peer own (some r) true t y.start x.start ≡ matches (some r) t (half_of own x) (half_of peer y)
      go true e = simp e (and_swap (eqb r.tep t) _ _)
      go false e = simp e (and_swap (eqb r.tep t) _ _)

  match_b_theirs : (h : Option SessionRecord) (t : ℕ) (x y : Sent) → matches_at own peer h false t x.start y.start ≡ matches h t (half_of own x) (half_of peer y)
  unfolding matches_at matches half_of starts_b sent_half expected_half
  match_b_theirs none t x y = refl
  match_b_theirs (some r) t x y = go (eqb r.role 0) refl
    where
      go : (b : Bool) → eqb r.role 0 ≡ b → matches_at own peer (some r) false t x.start y.start ≡ matches (some r) t (half_of own x) (half_of peer y)
      go true e = simp e
      go false e = simp e

  both_once : (own_is_b : Bool) (t : ℕ) (x y : Sent)
      → way_of_entries (of_a own_is_b own peer) (of_b own_is_b own peer) hand own_is_b t (of_a own_is_b (once_as x) (once_as y)) (of_b own_is_b (once_as x) (once_as y)) ≡ way_of (sides own_is_b) t x y
  unfolding way_of_entries way_of is_fresh is_bad is_resumption of_a of_b
  both_once true t x y =
      rw (not_long, not_long, match_b_mine hand t x y)
      (way_b_mine (is_fresh x) (leb 18 x.len) (is_fresh y) (leb 18 y.len) (matches hand t (half_of own x) (half_of peer y)))
  both_once false t x y =
      rw (not_long, not_long, match_b_theirs hand t x y)
      (way_b_theirs (is_fresh y) (leb 18 y.len) (is_fresh x) (leb 18 x.len) (matches hand t (half_of own x) (half_of peer y)))

  -- a TEP that one side did not send exactly once
  abbrev Off : Entry → Type 0
  Off e = e.times ≡ 1 → ⊥

  way_off_own : (own_is_b : Bool) (t : ℕ) (a b : List ℕ) (e p : Entry) → Off e → way_of_entries a b hand own_is_b t (of_a own_is_b e p) (of_b own_is_b e p) ≡ none
  unfolding way_of_entries of_a of_b
  way_off_own true t a b e p h = go (eqb p.times 1)
    where
      go : (x : Bool) → cond (x && eqb e.times 1 && not (is_bad (as_sent p)) && not (is_bad (as_sent e))) (cond (is_fresh (as_sent e)) (some fresh) (cond (not (is_fresh (as_sent p)) && matches_at a b hand true t p.start e.start) (some resumed) none)) none ≡ none
      go true = simp (ne_eqb _ _ h)
      go false = refl
  way_off_own false t a b e p h = simp (ne_eqb _ _ h)

  way_off_peer : (own_is_b : Bool) (t : ℕ) (a b : List ℕ) (e p : Entry) → Off p → way_of_entries a b hand own_is_b t (of_a own_is_b e p) (of_b own_is_b e p) ≡ none
  unfolding way_of_entries of_a of_b
  way_off_peer true t a b e p h = simp (ne_eqb _ _ h)
  way_off_peer false t a b e p h = go (eqb e.times 1)
    where
      go : (x : Bool) → cond (x && eqb p.times 1 && not (is_bad (as_sent e)) && not (is_bad (as_sent p))) (cond (is_fresh (as_sent p)) (some fresh) (cond (not (is_fresh (as_sent e)) && matches_at a b hand false t e.start p.start) (some resumed) none)) none ≡ none
      go true = simp (ne_eqb _ _ h)
      go false = refl

  off_none : Off (entry_from never [])
  off_none e = let z = entry_times [] in omega arith

  off_more : (x y : Sent) (l : List Sent) → Off (entry_from never (x ∷ y ∷ l))
  off_more x y l e = let z = entry_times (x ∷ y ∷ l) in omega arith

  -- by how often each side sent the TEP
  by_lists : (own_is_b : Bool) (t : ℕ) (l m : List Sent)
      → way_of_entries (of_a own_is_b own peer) (of_b own_is_b own peer) hand own_is_b t (of_a own_is_b (entry_from never l) (entry_from never m)) (of_b own_is_b (entry_from never l) (entry_from never m))
      ≡ way_of_both (sides own_is_b) t (once l) (once m)
  unfolding once way_of_both
  by_lists own_is_b t [] m = way_off_own own_is_b t _ _ _ _ off_none
  by_lists own_is_b t (x ∷ y ∷ l) m = way_off_own own_is_b t _ _ _ _ (off_more x y l)
  by_lists own_is_b t (x ∷ []) [] = way_off_peer own_is_b t _ _ _ _ off_none
  by_lists own_is_b t (x ∷ []) (y ∷ z ∷ m) = way_off_peer own_is_b t _ _ _ _ (off_more y z m)
  by_lists own_is_b t (x ∷ []) (y ∷ []) =
      ap₂ (λ e p. way_of_entries (of_a own_is_b own peer) (of_b own_is_b own peer) hand own_is_b t (of_a own_is_b e p) (of_b own_is_b e p)) (entry_once x) (entry_once y) ∙ both_once own_is_b t x y

  module _ (own_is_b : Bool) where
    abbrev lo : List Sent
    lo = teps_of own

    abbrev lp : List Sent
    lp = teps_of peer

    pub ways_valid : (t : ℕ) → 0x21 ≤ t → t ≤ 0x24
        → ways_of (of_a own_is_b own peer) (of_b own_is_b own peer) hand own_is_b (entries_of (teps_of own)) (entries_of (teps_of peer)) t ≡ validity (sides own_is_b) t
    unfolding ways_of validity
    ways_valid t low high =
        ap₂ (λ e p. way_of_entries (of_a own_is_b own peer) (of_b own_is_b own peer) hand own_is_b t (of_a own_is_b e p) (of_b own_is_b e p)) (entry_of_lem lo t low high) (entry_of_lem lp t low high)
        ∙ (by_lists own_is_b t (named t lo) (named t lp)
        ∙ ap (λ k. cond k (way_of_both (sides own_is_b) t (once (named t lo)) (once (named t lp))) none) (known_yes t low high))

    -- a valid TEP is known, and each side sent it exactly once
    pub record Both (t : ℕ) : Type 0 where
      pub low : 0x21 ≤ t
      pub high : t ≤ 0x24
      pub mine : Sent
      pub theirs : Sent
      pub my_one : named t (teps_of own) ≡ mine ∷ []
      pub their_one : named t (teps_of peer) ≡ theirs ∷ []

    pub valid_both : (t : ℕ) → (validity (sides own_is_b) t ≡ none → ⊥) → Both t
    unfolding validity once way_of_both
    valid_both t v = go (is_known t) refl v
      where
        both : (l m : List Sent) → named t lo ≡ l → named t lp ≡ m → (0x21 ≤ t) × (t ≤ 0x24) → (way_of_both (sides own_is_b) t (once l) (once m) ≡ none → ⊥) → Both t
        both [] m p q k v = absurd (v (off_left m))
          where
            off_left : (m : List Sent) → way_of_both (sides own_is_b) t (once []) (once m) ≡ none
            off_left m = refl
        both (x ∷ y ∷ l) m p q k v = absurd (v refl)
        both (x ∷ []) [] p q k v = absurd (v refl)
        both (x ∷ []) (y ∷ z ∷ m) p q k v = absurd (v refl)
        both (x ∷ []) (y ∷ []) p q k v = record { low = k.0; high = k.1; mine = x; theirs = y; my_one = p; their_one = q }

        go : (b : Bool) → is_known t ≡ b → (cond b (way_of_both (sides own_is_b) t (once (named t lo)) (once (named t lp))) none ≡ none → ⊥) → Both t
        go false e v = absurd (v refl)
        go true e v = both (named t lo) (named t lp) refl refl (known_range t e) v

    -- where B's data starts
    pub starts_b_lem : (t : ℕ) (b : Both t) → starts_of own_is_b (entries_of (teps_of own)) (entries_of (teps_of peer)) t ≡ (of_b own_is_b b.mine b.theirs).start
    unfolding starts_of of_b
    starts_b_lem t b =
        ap₂ (λ (e p : Entry). (of_b own_is_b e p).start)
        (entry_of_lem lo t b.low b.high ∙ (ap (entry_from never) b.my_one ∙ entry_once b.mine))
        (entry_of_lem lp t b.low b.high ∙ (ap (entry_from never) b.their_one ∙ entry_once b.theirs))
        ∙ go own_is_b
      where
        go : (o : Bool) → (of_b o (once_as b.mine) (once_as b.theirs)).start ≡ (of_b o b.mine b.theirs).start
        go true = refl
        go false = refl
