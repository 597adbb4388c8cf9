-- However a stream is cut into pieces, the items, the refusal with its position and the reader in the end are the same. Assumes nothing.
use Rattle.std.specs.Prelude.{ℕ, zero, suc, ◌-◌, ◌≤◌, ◌≡◌, refl, List, [], ◌∷◌, ◌++◌, Bool, true, false, cond, length, drop}
use Rattle.std.proofs.Common.{sym, ◌∙◌, ap, subst, arith, length-drop}
use Rattle.pieces_layout.specs.Reader.{Reader, State, heading, in_body, in_init, stopped, position_of, state_of, no_room}
use Rattle.pieces_layout.specs.ReaderLaws.{Room}
use Rattle.pieces_layout.proofs.ReaderLaws.{has_room, room_has}
use Rattle.pieces_layout.specs.Step.{Told, waiting, item, refused, short, Taken, taken_as, by_state, after_byte, still_in, more, go_on, fed_on, fed}
use Rattle.pieces_layout.specs.ByteLaws.{Ends}
use Rattle.pieces_layout.proofs.ByteLaws.{fine_byte}
use Rattle.pieces_layout.specs.Run.{Ran, ran, reported, drained, run, joined}
use Rattle.pieces_layout.specs.Each.{noting, each, both}
use Rattle.pieces_layout.proofs.Each.{noting_reader, each_append}

-- a refusal stays
pub stopped_each : (l : List ℕ) (n : ℕ) (r : Reader) → state_of r ≡ stopped n → each r l ≡ ran [] r
unfolding each after_byte by_state noting
stopped_each [] n r s = refl
stopped_each (b ∷ l) n r s = (rw s) ∙ stopped_each l n r s

-- what a piece comes to, beside the same byte by byte
abbrev Shows : Told → Ran → List ℕ → Reader → ℕ → Type 0
Shows waiting y p r u = y ≡ ran [] r
Shows (item x) y p r u = (y ≡ reported x r (each r (drop u p))) × (1 ≤ u)
Shows (refused n k) y p r u = y ≡ ran [] r
Shows short y p r u = ⊥

record Shown (y : Ran) (p : List ℕ) (t : Taken) : Type 0 where
  room : Room t.reader
  shows : Shows t.told y p t.reader t.used

shown_more : (y : Ran) (b : ℕ) (l : List ℕ) (x : Taken) → Shown y l x → Shown y (b ∷ l) (taken_as x.reader (more x.used x.told) x.told)
shown_more y b l x h = record { room = h.room; shows = go x.told h.shows }
  where
    go : (v : Told) → Shows v y l x.reader x.used → Shows v y (b ∷ l) x.reader (more x.used v)
    go waiting q = q
    go (item z) q = (q.0, omega arith)
    go (refused n k) q = q
    go short q = q

shown : (p : List ℕ) (r : Reader) → Room r → Shown (each r p) p (fed_on r p)
unfolding each fed_on noting go_on
shown [] r h = record { room = h; shows = go (state_of r) }
  where
    go : (s : State) → Shows (still_in s (position_of r)) (ran [] r) [] r 0
    go (heading s) = refl
    go (in_body x y) = refl
    go (in_init i keys) = refl
    go (stopped n) = refl
shown (b ∷ l) r h = step (after_byte r b).told (after_byte r b).reader (after_byte r b).used (fine_byte r b h).room (fine_byte r b h).ends (shown l (after_byte r b).reader (fine_byte r b h).room)
  where
    step : (v : Told) (x : Reader) (u : ℕ) → Room x → Ends v x u → Shown (each x l) l (fed_on x l) → Shown (noting v x (each x l)) (b ∷ l) (go_on (taken_as x u v) (λ z. fed_on z l))
    step waiting x u m e q = shown_more (each x l) b l (fed_on x l) q
    step (item z) x u m e q = record { room = m; shows = (ap (λ k. reported z x (each x (drop k (b ∷ l)))) (sym e), omega arith) }
    step (refused n k) x u m e q = record { room = m; shows = stopped_each l n x e.is }
    step short x u m e q = absurd e

-- a piece in as many calls as it takes
pub fed_room : (r : Reader) (p : List ℕ) → Room r → fed r p ≡ fed_on r p
unfolding fed
fed_room r p h = ap (λ b. cond b (taken_as r 0 short) (fed_on r p)) (room_has r h)

on_taken : ℕ → List ℕ → Taken → Ran
on_taken n p t = elim t.told [
  | waiting ↦ ran [] t.reader
  | item z ↦ reported z t.reader (drained n t.reader (drop t.used p))
  | refused a b ↦ ran [] t.reader
  | short ↦ ran [] t.reader
]

drained_on : (n : ℕ) (r : Reader) (p : List ℕ) (t : Taken) → fed r p ≡ t → drained (suc n) r p ≡ on_taken n p t
unfolding drained on_taken
drained_on n r p t e = ap (on_taken n p) e

-- the calls after the first
Rest : ℕ → Type 0
Rest n = (x : Reader) (q : List ℕ) → Room x → length q ≤ n - 1 → (n ≡ 0 → q ≡ []) → drained n x q ≡ each x q

piece_each : (n : ℕ) → Rest n → (p : List ℕ) (r : Reader) → Room r → length p ≤ n → drained (suc n) r p ≡ each r p
unfolding on_taken Rest
piece_each n rest p r h k = drained_on n r p (fed_on r p) (fed_room r p h) ∙ go (fed_on r p).told (fed_on r p).reader (fed_on r p).used (shown p r h).room (shown p r h).shows
  where
    empty : (q : List ℕ) (u : ℕ) → length q ≤ 0 → drop u q ≡ []
    empty [] zero e = refl
    empty [] (suc u) e = refl
    empty (b ∷ q) u e = absurd (omega arith)

    go : (v : Told) (x : Reader) (u : ℕ) → Room x → Shows v (each r p) p x u → on_taken n p (taken_as x u v) ≡ each r p
    go waiting x u a q = sym q
    go (item z) x u a q = ap (reported z x) (rest x (drop u p) a (omega (arith, length-drop u p, q.1)) (λ e. empty p u (omega arith))) ∙ sym q.0
    go (refused c d) x u a q = sym q
    go short x u a q = absurd q

no_rest : Rest zero
unfolding Rest drained each
no_rest x q a b c = ap (λ (l : List ℕ). ran [] x) (c refl) ∙ sym (ap (each x) (c refl))

drained_each : (n : ℕ) (p : List ℕ) (r : Reader) → Room r → length p ≤ n → drained (suc n) r p ≡ each r p
unfolding Rest
drained_each zero = piece_each zero no_rest
drained_each (suc n) = piece_each (suc n) (λ x q a b c. drained_each n q x a (omega arith))

room_each : (l : List ℕ) (r : Reader) → Room r → Room (each r l).reader
unfolding each
room_each [] r h = h
room_each (b ∷ l) r h = subst Room (sym (noting_reader (after_byte r b).told (after_byte r b).reader (each (after_byte r b).reader l))) (room_each l (after_byte r b).reader (fine_byte r b h).room)

-- pieces are the same as their bytes
pub run_each : (ps : List (List ℕ)) (r : Reader) → Room r → run r ps ≡ each r (joined ps)
unfolding run joined each
run_each [] r h = refl
run_each (p ∷ ps) r h =
    let e = drained_each (length p) p r h (omega arith) in
    ap (λ x. both x (run x.reader ps)) e
    ∙ (ap (λ y. both (each r p) y) (run_each ps (each r p).reader (room_each p r h)) ∙ sym (each_append p (joined ps) r))

-- with less room nothing moves
pub fed_short : (r : Reader) (p : List ℕ) → no_room r ≡ true → fed r p ≡ taken_as r 0 short
unfolding fed
fed_short r p e = ap (λ b. cond b (taken_as r 0 short) (fed_on r p)) e

pub short_run : (ps : List (List ℕ)) (r : Reader) → no_room r ≡ true → run r ps ≡ ran [] r
unfolding run on_taken
short_run [] r h = refl
short_run (p ∷ ps) r h = ap (λ x. both x (run x.reader ps)) (drained_on (length p) r p (taken_as r 0 short) (fed_short r p h)) ∙ short_run ps r h

-- however a stream is cut, the items, the refusal with its position and the reader in the end are the same: for any reader
pub however_cut : (r : Reader) (a b : List (List ℕ)) → joined a ≡ joined b → run r a ≡ run r b
however_cut r a b e = go (no_room r) refl
  where
    go : (t : Bool) → no_room r ≡ t → run r a ≡ run r b
    go true h = short_run a r h ∙ sym (short_run b r h)
    go false h = run_each a r (has_room r h) ∙ (ap (each r) e ∙ sym (run_each b r (has_room r h)))
