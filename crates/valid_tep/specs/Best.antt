-- How the code finds the last valid TEP: by the entries of the two summaries, and the largest start in B's option.
use Rattle.std.specs.Prelude.{ℕ, zero, suc, ◌+◌, ◌-◌, List, Bool, true, false, cond, not, ◌&&◌, ltb, eqb, get_or}
use Rattle.std.specs.Prelude as code
use Rattle.std.proofs.Math.Option.{Option, none, some}
use Rattle.wire.specs.Bytes.{part, same_bytes}
use Rattle.eno.specs.Judge.{is_fresh, is_bad, Way, fresh, resumed, is_resumed, of_a, of_b}
use Rattle.eno.specs.declared.SessionRecord.{SessionRecord}
use Rattle.suboptions.specs.declared.Entry.{Entry}
use Rattle.suboptions.specs.Summary.{never, as_sent}
use Rattle.valid_tep.specs.declared.Best.{Best}

-- where the half that B sends begins in the identifier
unfoldable pub starts_b : Bool → ℕ → ℕ
starts_b own_is_b role = cond own_is_b (cond (eqb role 0) 0 9) (cond (eqb role 0) 9 0)

-- the record in hand is of the TEP t, and its halves stand in A's option and in B's
unfoldable pub matches_at : List ℕ → List ℕ → Option SessionRecord → Bool → ℕ → ℕ → ℕ → Bool
matches_at a b none own_is_b t in_a in_b = false
matches_at a b (some r) own_is_b t in_a in_b =
    eqb r.tep t
    && same_bytes (part in_a 9 a) (part (9 - starts_b own_is_b r.role) 9 r.identifier)
    && same_bytes (part in_b 9 b) (part (starts_b own_is_b r.role) 9 r.identifier)

-- the way in which the TEP t is valid, by the entries of A and B
unfoldable pub way_of_entries : List ℕ → List ℕ → Option SessionRecord → Bool → ℕ → Entry → Entry → Option Way
way_of_entries a b hand own_is_b t ea eb =
    cond (eqb ea.times 1 && eqb eb.times 1 && not (is_bad (as_sent ea)) && not (is_bad (as_sent eb)))
    (cond (is_fresh (as_sent eb)) (some fresh)
    (cond (not (is_fresh (as_sent ea)) && matches_at a b hand own_is_b t ea.start eb.start) (some resumed)
    none))
    none

-- whether one was found, and of that one where its data starts and whether it is resumed
abbrev pub is_found : code.Option Best → Bool
is_found code.None = false
is_found (code.Some x) = true

abbrev pub start_of : code.Option Best → ℕ
start_of code.None = 0
start_of (code.Some x) = x.start

abbrev pub resumed_of : code.Option Best → Bool
resumed_of code.None = false
resumed_of (code.Some x) = x.resumed

abbrev pub found_at : ℕ → Bool → code.Option Best
found_at start again = code.Some (record { start = start; resumed = again })

abbrev pub none_yet : code.Option Best
none_yet = code.None

-- a TEP that is valid in the way w, with its data from `at` on, stands behind the one found so far, if any
unfoldable pub is_later : Bool → ℕ → Option Way → ℕ → Bool
is_later found start none at = false
is_later found start (some w) at = cond found (ltb start at) true

unfoldable pub resumed_by : Option Way → Bool
resumed_by none = false
resumed_by (some w) = is_resumed w

-- the one with the larger start
unfoldable pub better_of : code.Option Best → Option Way → ℕ → code.Option Best
better_of best w at = cond (is_later (is_found best) (start_of best) w at) (found_at at (resumed_by w)) best

-- over n TEPs from t on, whose ways and starts are given
unfoldable pub best_from : (ℕ → Option Way) → (ℕ → ℕ) → ℕ → ℕ → code.Option Best → code.Option Best
best_from way start zero t best = best
best_from way start (suc n) t best = best_from way start n (t + 1) (better_of best (way t) (start t))

-- the entry of the TEP t
abbrev pub entry_at : List Entry → ℕ → Entry
entry_at es t = get_or es (t - 0x21) never

-- the way of the TEP t, and where its data starts in B's option
unfoldable pub ways_of : List ℕ → List ℕ → Option SessionRecord → Bool → List Entry → List Entry → ℕ → Option Way
ways_of a b hand own_is_b own peer t = way_of_entries a b hand own_is_b t (of_a own_is_b (entry_at own t) (entry_at peer t)) (of_b own_is_b (entry_at own t) (entry_at peer t))

unfoldable pub starts_of : Bool → List Entry → List Entry → ℕ → ℕ
starts_of own_is_b own peer t = (of_b own_is_b (entry_at own t) (entry_at peer t)).start

unfoldable pub best_of : List ℕ → List ℕ → Option SessionRecord → Bool → List Entry → List Entry → code.Option Best
best_of a b hand own_is_b own peer = best_from (ways_of a b hand own_is_b own peer) (starts_of own_is_b own peer) 4 0x21 none_yet
