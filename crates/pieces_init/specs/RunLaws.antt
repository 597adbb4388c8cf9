-- Laws of many bytes of an Init message at once, behind its ciphers. Assumes nothing.
use Rattle.std.specs.Prelude.{ℕ, suc, ◌+◌, ◌-◌, ◌≤◌, ◌<◌, ◌≡◌, List, [], ◌∷◌, ◌++◌, Bool, true, false, cond, ltb, get_or, set, take, drop}
use Rattle.std.proofs.Math.Path.{refl, sym, ap}
use Rattle.std.proofs.Common.{◌∙◌, ap₂, append-nil, append_assoc, add-zero, arith, ltb-false, take-append-drop, take-suc, drop-cons, length-take-le}
use Rattle.std.proofs.Math.ListN.{length, length-drop}
use Rattle.std.proofs.lemmas.List.{set_split}
use Rattle.std.proofs.Math.Seq.{split_at}
use Rattle.wire.specs.Bytes.{pasted}
use Rattle.wire.specs.ByteLaws.{pasted_fits, pasted_twice, length_pasted}
use Rattle.eno.specs.Tep.{key_length}
use Rattle.init_layout.specs.Reading.{length_at, count_at, nonce_from}
use Rattle.pieces_layout.specs.Reader.{reader_of, own_from, position_of, first_of, second_of, state_of, moved}
use Rattle.pieces_layout.specs.Step.{waiting, still_in, taken_as, message_end, fed_on}
use Rattle.pieces_layout.specs.Answers.{taken_of}
use Rattle.pieces_layout.specs.declared.Fed.{Fed}
use Rattle.pieces_steps.specs.Kinds.{kind_of}
use Rattle.pieces_steps.specs.Later.{waiting_of, later}
use Rattle.pieces_steps.specs.LaterLaws.{later_later, later_waits}
use Rattle.pieces_steps.specs.NumberLaws.{state_moved}
use Rattle.pieces_init.specs.Gathering.{stored_in, finished_at, Reads}
use Rattle.pieces_init.specs.GatherLaws.{came_to, stored_low, length_stored, end_kept, behind_eight, nonce_kept, later_finished, behind_on, behind_ends}

-- the message ends at 4,096 at the latest
pub end_most : (g : List ℕ) → message_end g ≤ 4096
unfolding message_end own_from
end_most g = go (length_at g) (ltb 4096 (length_at g)) refl
  where
    go : (n : ℕ) (t : Bool) → ltb 4096 n ≡ t → cond t 4096 n ≤ 4096
    go n true e = omega arith
    go n false e = ltb-false 4096 n e

-- a byte that is set is one that is pasted
set_pasted : (g : List ℕ) (n b : ℕ) → n < length g → set g n b ≡ pasted g n (b ∷ [])
set_pasted g n b h =
    let e : n + 1 ≡ suc n = omega arith in
    set_split g n b h
    ∙ sym (pasted_fits g n (b ∷ []) (omega arith) ∙ (append_assoc (take n g) (b ∷ []) (drop (n + 1) g) ∙ ap (λ k. take n g ++ b ∷ drop k g) e))

pasted_none : (g : List ℕ) (n : ℕ) → n ≤ length g → pasted g n [] ≡ g
pasted_none g n h =
    pasted_fits g n [] (omega arith)
    ∙ (append_assoc (take n g) [] (drop (n + 0) g) ∙ (ap (λ k. take n g ++ drop k g) (add-zero n) ∙ take-append-drop n g))

-- one byte, then those behind it
pasted_next : (g v : List ℕ) (n b : ℕ) → n < 4096 → n + suc (length v) ≤ length g → pasted (stored_in g n b) (n + 1) v ≡ pasted g n (b ∷ v)
pasted_next g v n b low room =
    ap (λ x. pasted x (n + 1) v) (stored_low g n b low ∙ set_pasted g n b (omega arith)) ∙ pasted_twice g (b ∷ []) v n (omega arith)

-- what stands before reads as before
run_kept : (F : List ℕ → ℕ) → ((g : List ℕ) (n b : ℕ) → 8 < n → F (stored_in g n b) ≡ F g) → (v g : List ℕ) (n : ℕ) → 8 < n → n + length v ≤ 4096 → n + length v ≤ length g → F (pasted g n v) ≡ F g
run_kept F keep [] g n h low room = ap F (pasted_none g n (omega arith))
run_kept F keep (b ∷ v) g n h low room =
    ap F (sym (pasted_next g v n b (omega arith) (omega arith)))
    ∙ (run_kept F keep v (stored_in g n b) (n + 1) (omega arith) (omega arith) (omega (arith, length_stored g n b)) ∙ keep g n b h)

-- those, and one behind them
pasted_last : (g v : List ℕ) (n b : ℕ) → n + length v < 4096 → n + length v < length g → stored_in (pasted g n v) (n + length v) b ≡ pasted g n (v ++ (b ∷ []))
pasted_last g v n b low room =
    stored_low (pasted g n v) (n + length v) b low
    ∙ (set_pasted (pasted g n v) (n + length v) b (omega (arith, length_pasted g n v)) ∙ pasted_twice g v (b ∷ []) n (omega arith))

-- the state does not hang on the gathered bytes
pub reads_kept : (two : Bool) (tep : ℕ) (w g h : List ℕ) → Reads two tep w g → length h ≡ length g → Reads two tep w h
unfolding state_of first_of second_of
reads_kept two tep w g h r e = record { four = r.four; wide = omega (arith, r.wide); state = r.state }

-- no byte: the reader waits
pub came_still : (two : Bool) (tep : ℕ) (w g : List ℕ) (n : ℕ) → Reads two tep w g → fed_on (came_to w n g) [] ≡ taken_as (came_to w n g) 0 waiting
unfolding fed_on
came_still two tep w g n r = ap (λ s. taken_as (came_to w n g) 0 (still_in s (position_of (came_to w n g)))) (state_moved (reader_of w g) n ∙ r.state)

-- bytes behind the ciphers and before the message's last
pub run_on : (two : Bool) (tep : ℕ) (w : List ℕ) (v g : List ℕ) (n : ℕ) (l : List ℕ) → Reads two tep w g → nonce_from (kind_of two) (count_at (kind_of two) g) ≤ n → n + length v < message_end g
    → fed_on (came_to w n g) (v ++ l) ≡ later (length v) (fed_on (came_to w (n + length v) (pasted g n v)) l)
unfolding later
run_on two tep w [] g n l reads late h =
    let k = reads.wide in
    let q = end_most g in
    ap₂ (λ m x. fed_on (came_to w m x) l) (sym (add-zero n)) (sym (pasted_none g n (omega arith)))
run_on two tep w (b ∷ v) g n l reads late h =
    let k = reads.wide in
    let q = end_most g in
    let e8 = behind_eight (kind_of two) g n late in
    let ek = end_kept g n b e8 in
    let nk = nonce_kept (kind_of two) g n b e8 in
    let e : n + 1 + length v ≡ n + suc (length v) = omega arith in
    let z : 1 + length v ≡ suc (length v) = omega arith in
    let p : pasted (stored_in g n b) (n + 1) v ≡ pasted g n (b ∷ v) = pasted_next g v n b (omega arith) (omega arith) in
    behind_on two tep w g reads n b (v ++ l) late (omega arith)
    ∙ (ap (later 1) (run_on two tep w v (stored_in g n b) (n + 1) l (reads_kept two tep w g (stored_in g n b) reads (length_stored g n b)) (omega arith) (omega arith))
    ∙ (later_later 1 (length v) (fed_on (came_to w (n + 1 + length v) (pasted (stored_in g n b) (n + 1) v)) l)
    ∙ (λ j. later (z j) (fed_on (came_to w (e j) (p j)) l))))

-- the whole rest of the message
module _ (two : Bool) (tep : ℕ) (w g : List ℕ) (n : ℕ) (piece : List ℕ) (i : ℕ) (reads : Reads two tep w g) (within : i < length piece)
    (late : nonce_from (kind_of two) (count_at (kind_of two) g) ≤ n) (end : ℕ) (is-end : end ≡ message_end g) where
  first_byte : drop i piece ≡ get_or piece i 0 ∷ drop (suc i) piece
  first_byte = drop-cons piece i 0 within

  pub rest_past : end ≤ n → (f : Fed) (after x : List ℕ) (used : ℕ) → x ≡ stored_in g n (get_or piece i 0) → used ≡ i + 1
      → taken_of f after x ≡ finished_at (kind_of two) (key_length tep) (reader_of w x) end n used
      → taken_of f after x ≡ later i (fed_on (came_to w n g) (drop i piece))
  rest_past h f after x used ex eu told =
      told
      ∙ ((λ j. finished_at (kind_of two) (key_length tep) (reader_of w (ex j)) (is-end j) n (eu j))
      ∙ (sym (later_finished i (kind_of two) (key_length tep) (reader_of w (stored_in g n (get_or piece i 0))) (message_end g) n 1)
      ∙ ap (later i) (sym (behind_ends two tep w g reads n (get_or piece i 0) (drop (suc i) piece) late (omega arith)) ∙ ap (fed_on (came_to w n g)) (sym first_byte))))

  run_waits : (v : List ℕ) → v ≡ drop i piece → n + length v < end → later i (fed_on (came_to w n g) v) ≡ taken_as (came_to w (n + length v) (pasted g n v)) (length piece) waiting
  run_waits v e h =
      let d : length v ≡ length piece - i = ap length e ∙ length-drop i piece in
      let total : i + (length v + 0) ≡ length piece = omega arith in
      ap (later i)
      (ap (fed_on (came_to w n g)) (sym (append-nil v))
      ∙ (run_on two tep w v g n [] reads late (omega arith)
      ∙ (ap (later (length v)) (came_still two tep w (pasted g n v) (n + length v) (reads_kept two tep w g (pasted g n v) reads (length_pasted g n v)))
      ∙ later_waits (length v) (came_to w (n + length v) (pasted g n v)) 0)))
      ∙ (later_waits i (came_to w (n + length v) (pasted g n v)) (length v + 0) ∙ ap (λ k. taken_as (came_to w (n + length v) (pasted g n v)) k waiting) total)

  pub rest_waits : n < end → length piece - i < end - n → (f : Fed) (x : List ℕ) → f ≡ waiting_of (length piece) → x ≡ pasted g n (drop i piece)
      → taken_of f (set w 0 (n + (length piece - i))) x ≡ later i (fed_on (came_to w n g) (drop i piece))
  unfolding moved
  rest_waits h k f x ef ex =
      let d : length (drop i piece) ≡ length piece - i = length-drop i piece in
      ap (λ y. taken_of y (set w 0 (n + (length piece - i))) x) ef
      ∙ ((λ j. taken_as (reader_of (set w 0 (n + sym d j)) (ex j)) (length piece) waiting) ∙ sym (run_waits (drop i piece) refl (omega arith)))

  whole_run : (v : List ℕ) (b : ℕ) (l : List ℕ) → drop i piece ≡ v ++ (b ∷ l) → n + length v + 1 ≡ end
      → finished_at (kind_of two) (key_length tep) (reader_of w (pasted g n (v ++ (b ∷ [])))) end (n + length v) (i + (length v + 1)) ≡ later i (fed_on (came_to w n g) (drop i piece))
  whole_run v b l e h =
      let k = reads.wide in
      let q = end_most g in
      let e8 = behind_eight (kind_of two) g n late in
      let nonce-run : nonce_from (kind_of two) (count_at (kind_of two) (pasted g n v)) ≡ nonce_from (kind_of two) (count_at (kind_of two) g) = run_kept (λ x. nonce_from (kind_of two) (count_at (kind_of two) x)) (nonce_kept (kind_of two)) v g n e8 (omega arith) (omega arith) in
      let end-run : message_end (pasted g n v) ≡ message_end g = run_kept message_end end_kept v g n e8 (omega arith) (omega arith) in
      let p : stored_in (pasted g n v) (n + length v) b ≡ pasted g n (v ++ (b ∷ [])) = pasted_last g v n b (omega arith) (omega arith) in
      sym (ap (later i)
      (ap (fed_on (came_to w n g)) e
      ∙ (run_on two tep w v g n (b ∷ l) reads late (omega arith)
      ∙ (ap (later (length v))
      (behind_ends two tep w (pasted g n v) (reads_kept two tep w g (pasted g n v) reads (length_pasted g n v)) (n + length v) b l (omega arith) (omega arith)
      ∙ (λ j. finished_at (kind_of two) (key_length tep) (reader_of w (p j)) ((end-run ∙ sym is-end) j) (n + length v) 1))
      ∙ later_finished (length v) (kind_of two) (key_length tep) (reader_of w (pasted g n (v ++ (b ∷ [])))) end (n + length v) 1)))
      ∙ later_finished i (kind_of two) (key_length tep) (reader_of w (pasted g n (v ++ (b ∷ [])))) end (n + length v) (length v + 1))

  pub rest_whole : n < end → end - n ≤ length piece - i → (f : Fed) (after x : List ℕ) (last used : ℕ) → x ≡ pasted g n (take (end - n) (drop i piece)) → last ≡ end - 1 → used ≡ i + (end - n)
      → taken_of f after x ≡ finished_at (kind_of two) (key_length tep) (reader_of w x) end last used
      → taken_of f after x ≡ later i (fed_on (came_to w n g) (drop i piece))
  rest_whole h k f after x last used ex el eu told =
      let d : length (drop i piece) ≡ length piece - i = length-drop i piece in
      let v = take (end - n - 1) (drop i piece) in
      let b = get_or (drop i piece) (end - n - 1) 0 in
      let lv : length (take (end - n - 1) (drop i piece)) ≡ end - n - 1 = length-take-le (end - n - 1) (drop i piece) (omega arith) in
      let e1 : suc (end - n - 1) ≡ end - n = omega arith in
      let cut : take (end - n) (drop i piece) ≡ v ++ (b ∷ []) = ap (λ k. take k (drop i piece)) (sym e1) ∙ take-suc (drop i piece) (end - n - 1) 0 (omega arith) in
      let el2 : last ≡ n + length v = el ∙ (let q : end - 1 ≡ n + length v = omega arith in q) in
      let eu2 : used ≡ i + (length v + 1) = eu ∙ (let q : i + (end - n) ≡ i + (length v + 1) = omega arith in q) in
      told
      ∙ ((λ j. finished_at (kind_of two) (key_length tep) (reader_of w ((ex ∙ ap (pasted g n) cut) j)) end (el2 j) (eu2 j))
      ∙ whole_run v b (drop (suc (end - n - 1)) (drop i piece)) (split_at (drop i piece) (end - n - 1) 0 (omega arith)) (omega arith))
