-- What a piece comes to, for any reader: a reader that waits took all of it, an item has at least one byte, a refusal is 8, 10 or 11 and is given again until the reader is started anew. Assumes nothing.
use Rattle.std.specs.Prelude.{ℕ, suc, ◌≤◌, ◌≡◌, refl, List, [], ◌∷◌, Bool, true, false, cond, ◌⊎◌, ◌↔◌, eqb, length, get_or}
use Rattle.std.proofs.Common.{◌∙◌, ap, subst, inl, inr, arith}
use Rattle.pieces_layout.specs.Reader.{Reader, State, heading, in_body, in_init, stopped, position_of, first_of, second_of, stage_of, state_of, no_room}
use Rattle.pieces_layout.specs.ReaderLaws.{Room}
use Rattle.pieces_layout.proofs.ReaderLaws.{has_room}
use Rattle.pieces_layout.specs.Step.{Item, Told, waiting, item, refused, short, Taken, taken_as, by_state, after_byte, still_in, more, go_on, fed_on, fed}
use Rattle.pieces_layout.specs.ByteLaws.{Noted, Ends}
use Rattle.pieces_layout.proofs.ByteLaws.{fine_byte}
use Rattle.pieces_layout.proofs.CutLaws.{fed_room, fed_short}
use Rattle.pieces_layout.specs.PieceLaws.{Refusal}

-- what a piece of n bytes leaves
abbrev Leaves : Told → Reader → (u n : ℕ) → Type 0
Leaves waiting r u n = u ≡ n
Leaves (item x) r u n = (1 ≤ u) × (u ≤ n)
Leaves (refused k p) r u n = Noted k p r u
Leaves short r u n = ⊥

record Left (n : ℕ) (t : Taken) : Type 0 where
  room : Room t.reader
  leaves : Leaves t.told t.reader t.used n

left_on : (p : List ℕ) (r : Reader) → Room r → Left (length p) (fed_on r p)
unfolding fed_on go_on
left_on [] r h = record { room = h; leaves = go (state_of r) refl }
  where
    go : (s : State) → state_of r ≡ s → Leaves (still_in s (position_of r)) r 0 0
    go (heading s) e = refl
    go (in_body x y) e = refl
    go (in_init i keys) e = refl
    go (stopped n) e = record { is = e; at = refl; none_used = refl }
left_on (b ∷ l) r h = step (after_byte r b).told (after_byte r b).reader (after_byte r b).used (fine_byte r b h).room (fine_byte r b h).ends (left_on l (after_byte r b).reader (fine_byte r b h).room)
  where
    longer : (v : Told) (x : Reader) (u : ℕ) → Leaves v x u (length l) → Leaves v x (more u v) (suc (length l))
    longer waiting x u e = omega arith
    longer (item z) x u e = (omega arith, omega arith)
    longer (refused k p) x u e = record { is = e.is; at = e.at; none_used = refl }
    longer short x u e = e

    step : (v : Told) (x : Reader) (u : ℕ) → Room x → Ends v x u → Left (length l) (fed_on x l) → Left (suc (length l)) (go_on (taken_as x u v) (λ z. fed_on z l))
    step waiting x u m e q = record { room = q.room; leaves = longer (fed_on x l).told (fed_on x l).reader (fed_on x l).used q.leaves }
    step (item z) x u m e q = record { room = m; leaves = (omega arith, omega arith) }
    step (refused n k) x u m e q = record { room = m; leaves = e }
    step short x u m e q = absurd e

-- the same of a call, which tells 5 exactly where it lacks room, and then changes nothing
abbrev LeavesOf : Told → Reader → (u n : ℕ) → Reader → Type 0
LeavesOf waiting x u n r = u ≡ n
LeavesOf (item z) x u n r = (1 ≤ u) × (u ≤ n)
LeavesOf (refused k p) x u n r = Noted k p x u × Room x
LeavesOf short x u n r = (no_room r ≡ true) × (x ≡ r) × (u ≡ 0)

left_by : (r : Reader) (p : List ℕ) → LeavesOf (fed r p).told (fed r p).reader (fed r p).used (length p) r
left_by r p = go (no_room r) refl
  where
    on : (v : Told) (x : Reader) (u : ℕ) → Room x → Leaves v x u (length p) → LeavesOf v x u (length p) r
    on waiting x u m e = e
    on (item z) x u m e = e
    on (refused k q) x u m e = (e, m)
    on short x u m e = absurd e

    go : (t : Bool) → no_room r ≡ t → LeavesOf (fed r p).told (fed r p).reader (fed r p).used (length p) r
    go true e = rw (fed_short r p e) (e, refl, refl)
    go false e =
        let m = has_room r e in
        let q = left_on p r m in
        rw (fed_room r p m) (on (fed_on r p).told (fed_on r p).reader (fed_on r p).used q.room q.leaves)

-- a reader that has refused
still_stopped : (x : Reader) (n : ℕ) → state_of x ≡ stopped n → (q : List ℕ) → fed_on x q ≡ taken_as x 0 (refused n (position_of x))
unfolding fed_on go_on after_byte by_state
still_stopped x n e [] = rw e
still_stopped x n e (b ∷ l) = rw e

abbrev Noting : State → Type 0
Noting (heading s) = Unit {0}
Noting (in_body x y) = Unit {0}
Noting (in_init i keys) = Unit {0}
Noting (stopped n) = Refusal n

noting_cond : (b : Bool) (x y : State) → Noting x → Noting y → Noting (cond b x y)
noting_cond true x y p q = p
noting_cond false x y p q = q

noting_number : (a : ℕ) → Refusal (cond (eqb a 8) 8 (cond (eqb a 10) 10 11))
noting_number a = go (eqb a 8) (eqb a 10)
  where
    go : (x y : Bool) → Refusal (cond x 8 (cond y 10 11))
    go true y = inl refl
    go false true = inr (inl refl)
    go false false = inr (inr refl)

noting_stage : (n a b : ℕ) → Noting (stage_of n a b)
unfolding stage_of
noting_stage n a b =
    noting_cond (eqb n 1) _ _ tt
    (noting_cond (eqb n 2) _ _ tt
    (noting_cond (eqb n 3) _ _ tt
    (noting_cond (eqb n 4) _ _ tt
    (noting_cond (eqb n 5) _ _ tt
    (noting_cond (eqb n 6) _ _ (noting_number a) tt)))))

noting_state : (r : Reader) → Noting (state_of r)
unfolding state_of
noting_state r = noting_stage (get_or r.numbers 3 0) (first_of r) (second_of r)

module _ (r : Reader) (p : List ℕ) where
  -- a reader that waits took the whole piece
  pub waits_took_all : (fed r p).told ≡ waiting → (fed r p).used ≡ length p
  waits_took_all e = rw e at (left_by r p)

  -- an item takes at least one byte, and none behind the piece
  pub item_took_some : (x : Item) → (fed r p).told ≡ item x → (1 ≤ (fed r p).used) × ((fed r p).used ≤ length p)
  item_took_some x e = rw e at (left_by r p)

  -- 5 is told for want of room alone, and changes nothing
  pub short_means : ((fed r p).told ≡ short) ↔ (no_room r ≡ true)
  short_means = (λ e. (rw e at (left_by r p)).0, λ e. ap (λ (t : Taken). t.told) (fed_short r p e))

  pub short_changes_nothing : (fed r p).told ≡ short → (fed r p).reader ≡ r
  short_changes_nothing e = (rw e at (left_by r p)).1

  module _ (n k : ℕ) (e : (fed r p).told ≡ refused n k) where
    refusal_noted : Noted n k (fed r p).reader (fed r p).used × Room (fed r p).reader
    refusal_noted = rw e at (left_by r p)

    -- a refusal is noted in the reader, with its position, and uses no byte
    pub refusal_uses_none : (fed r p).used ≡ 0
    refusal_uses_none = refusal_noted.0.none_used

    -- it is given again, with its position, whatever piece comes, and changes nothing
    pub refusal_stays : (q : List ℕ) → fed (fed r p).reader q ≡ taken_as (fed r p).reader 0 (refused n k)
    refusal_stays q = fed_room (fed r p).reader q refusal_noted.1 ∙ (still_stopped (fed r p).reader n refusal_noted.0.is q ∙ ap (λ x. taken_as (fed r p).reader 0 (refused n x)) refusal_noted.0.at)

    -- it is 8, 10 or 11
    pub stops_with : Refusal n
    stops_with = subst Noting refusal_noted.0.is (noting_state (fed r p).reader)
