-- The frames of a stream, byte by byte, beside the one-shot reader of headers. Assumes nothing.
use Prim.Native.Nat.{ℕ, zero, suc, ◌+◌, ◌-◌, ◌%◌, ◌≤◌, ◌<◌}
use Rattle.std.specs.Prelude.{◌≡◌, Bool, cond, ◌||◌, ltb, eqb, get_or, drop}
use Rattle.std.proofs.Math.Path.{refl, ap, subst}
use Rattle.std.proofs.Common.{sym, ◌∙◌, ap₂, true≢false}
use mathlib.Core.List.{List, [], ◌∷◌, ◌++◌}
use Rattle.std.proofs.Math.Bool.{true, false}
use native.Mathlib.Omega.{arith}
use Rattle.std.proofs.Math.Decide.{dec_lt}
use borrow.Author.Tests.{ltb-true, ltb-false, lt-ltb, le-ltb, eqb-true, eqb-false}
use Rattle.std.proofs.Math.ListN.{length, length-append, length-drop, length-set}
use Rattle.wire.specs.Bytes.{Bytes}
use Rattle.frame_layout.specs.Layout.{next_offset, no_frame}
use Rattle.frame_layout.proofs.LayoutLaws.{frame_fits}
use Rattle.frame_layout.specs.Calls.{read_header, length_in, outcome}
use Rattle.init_layout.proofs.VoidLaws.{or_false}
use Rattle.init_layout.proofs.ContinuingLaws.{bytes_both, bytes_drop}
use Rattle.pieces_layout.specs.Reader.{Reader, State, heading, in_body, stopped, position_of, stage_of, state_of, moved, become}
use Rattle.pieces_layout.proofs.ReaderLaws.{long_become, state_become, position_become, state_moved, position_moved}
use Rattle.pieces_layout.specs.Step.{Item, header, body, waiting, item, Taken, taken_as, stop, least_in, hopeless, headed, bodied, by_state, after_byte}
use Rattle.pieces_layout.specs.Run.{Ran, ran, reported}
use Rattle.pieces_layout.specs.Each.{noting, each}
use Rattle.pieces_layout.proofs.CutLaws.{stopped_each}
use Rattle.pieces_layout.specs.Stream.{waits, stops, Parsed, ending, reporting, Opening, not_yet, settled, opening, head_decided, frames_in, ending_of, parsed_by}
use Rattle.pieces_layout.proofs.OpeningLaws.{Onward, Met, Opened, opened}
use Rattle.pieces_layout.specs.FrameStreamLaws.{Heads, body_in, frame_in, opened_in}

-- a byte of a header, with its position and the header's
headed_as : Reader → (at o : ℕ) → List ℕ → Taken
headed_as r at o p =
    cond (hopeless o p) (stop r 11)
    (cond (ltb (length p) 3) (taken_as (become r (at + 1) (get_or p 0 0) (get_or p 1 0) (length p)) 1 waiting)
    (taken_as (become r (at + 1) (at + 1) (next_offset o (length_in p)) 3) 1 (item (header (outcome (read_header p o))))))

one_more : (p : List ℕ) (b : ℕ) → length (p ++ (b ∷ [])) ≡ length p + 1
one_more p b = length-append p (b ∷ [])

head_byte : (o : ℕ) (p : List ℕ) (r : Reader) (b : ℕ) → Heads o p r → after_byte r b ≡ headed_as r (o + length p) o (p ++ (b ∷ []))
unfolding after_byte by_state headed headed_as
head_byte o p r b h =
    let e : position_of r - (length (p ++ (b ∷ [])) - 1) ≡ o = omega (arith, h.at, one_more p b) in
    ap (λ s. by_state s r b) h.is ∙ ap₂ (λ x y. headed_as r x y (p ++ (b ∷ []))) h.at e

-- the stages of a header at hand
small_rest : (x : ℕ) → x < 256 → x % 256 ≡ x
small_rest x h = omega arith

stage_heading : (q : List ℕ) → Bytes q → 1 ≤ length q → length q ≤ 2 → stage_of (length q) (get_or q 0 0) (get_or q 1 0) ≡ heading q
unfolding stage_of
stage_heading [] b low high = absurd (omega arith)
stage_heading (c ∷ []) b low high = ap (λ x. heading (x ∷ [])) (small_rest c b.0)
stage_heading (c ∷ h ∷ []) b low high = ap₂ (λ x y. heading (x ∷ y ∷ [])) (small_rest c b.0) (small_rest h b.1.0)
stage_heading (c ∷ h ∷ l ∷ q) b low high = absurd (omega arith)

undecided : (o : ℕ) (q : List ℕ) → head_decided o q ≡ false → (hopeless o q ≡ false) × (length q ≡ 3 → ⊥)
unfolding head_decided
undecided o q e = let f = or_false (hopeless o q) (eqb (length q) 3) e in (f.0, eqb-false (length q) 3 f.1)

head_onward : (o : ℕ) (p : List ℕ) (r : Reader) (b : ℕ) → Heads o p r → b < 256 → head_decided o (p ++ (b ∷ [])) ≡ false → Onward (head_decided o) (Heads o) p r b
unfolding headed_as
head_onward o p r b h y e =
    let q = p ++ (b ∷ []) in
    let n = one_more p b in
    let u = undecided o q e in
    let few : length q ≤ 2 = omega (arith, u.1, h.few) in
    let t : after_byte r b ≡ taken_as (become r (o + length p + 1) (get_or q 0 0) (get_or q 1 0) (length q)) 1 waiting =
    head_byte o p r b h ∙ (rw (u.0, lt-ltb (length q) 3 (omega arith))) in
    let x = become r (o + length p + 1) (get_or q 0 0) (get_or q 1 0) (length q) in
    let bytes = bytes_both p (b ∷ []) h.bytes (y, tt) in
    record {
      waits = ap (λ (v : Taken). v.told) t;
      next = subst (Heads o q) (sym (ap (λ (v : Taken). v.reader) t))
          (record {
            four = omega (arith, long_become r (o + length p + 1) (get_or q 0 0) (get_or q 1 0) (length q), h.four);
            is = state_become r (o + length p + 1) (get_or q 0 0) (get_or q 1 0) (length q) h.four ∙ stage_heading q bytes (omega arith) few;
            at = position_become r (o + length p + 1) (get_or q 0 0) (get_or q 1 0) (length q) h.four ∙ omega arith;
            few = few;
            bytes = bytes;
          });
    }

-- a body: within it, and to its end
record Within (begins ends x : ℕ) (r : Reader) : Type 0 where
  four : 4 ≤ length r.numbers
  is : state_of r ≡ in_body begins ends
  at : position_of r ≡ x

bodied_as : Reader → (at begins ends : ℕ) → Taken
bodied_as r at begins ends = cond (ltb (at + 1) ends) (taken_as (moved r (at + 1)) 1 waiting) (taken_as (become r ends 0 0 0) 1 (item (body begins ends)))

module _ (begins ends : ℕ) where
  body_byte : (x : ℕ) (r : Reader) (b : ℕ) → Within begins ends x r → after_byte r b ≡ bodied_as r x begins ends
  unfolding after_byte by_state bodied bodied_as
  body_byte x r b h = ap (λ s. by_state s r b) h.is ∙ ap (λ n. bodied_as r n begins ends) h.at

  -- a byte that is not the last
  body_on : (x : ℕ) (r : Reader) (b : ℕ) → Within begins ends x r → x + 1 < ends → ((after_byte r b).told ≡ waiting) × Within begins ends (x + 1) (after_byte r b).reader
  unfolding bodied_as moved
  body_on x r b h k =
      let t : after_byte r b ≡ taken_as (moved r (x + 1)) 1 waiting = body_byte x r b h ∙ (rw (lt-ltb (x + 1) ends k)) in (
        ap (λ (v : Taken). v.told) t,
        subst (Within begins ends (x + 1)) (sym (ap (λ (v : Taken). v.reader) t))
            (record { four = omega (arith, length-set r.numbers 0 (x + 1), h.four); is = state_moved r (x + 1) ∙ h.is; at = position_moved r (x + 1) h.four }),
      )

  body_within : (s : List ℕ) (x : ℕ) (r : Reader) → Within begins ends x r → x + length s < ends → ((each r s).reports ≡ []) × Within begins ends (x + length s) (each r s).reader
  unfolding each noting
  body_within [] x r h k = (refl, subst (λ n. Within begins ends n r) (omega arith) h)
  body_within (b ∷ l) x r h k =
      let n = body_on x r b h (omega arith) in
      let m = body_within l (x + 1) (after_byte r b).reader n.1 (omega arith) in
      let e : x + 1 + length l ≡ x + suc (length l) = omega arith in
      let t : each r (b ∷ l) ≡ each (after_byte r b).reader l = rw n.0 in
      (ap (λ (v : Ran). v.reports) t ∙ m.0, subst (λ (v : Ran). Within begins ends (x + suc (length l)) v.reader) (sym t) (subst (λ k. Within begins ends k (each (after_byte r b).reader l).reader) e m.1))

  record Ended (s : List ℕ) (x : ℕ) (r : Reader) : Type 0 where
    next : Reader
    heads : Heads ends [] next
    comes_to : each r s ≡ reported (body begins ends) next (each next (drop (ends - x) s))

  body_last : (b : ℕ) (l : List ℕ) (x : ℕ) (r : Reader) → Within begins ends x r → x + 1 ≡ ends → Ended (b ∷ l) x r
  unfolding bodied_as stage_of each noting
  body_last b l x r h k =
      let t : after_byte r b ≡ taken_as (become r ends 0 0 0) 1 (item (body begins ends)) = body_byte x r b h ∙ (rw (le-ltb (x + 1) ends (omega arith))) in
      let y = become r ends 0 0 0 in
      let d : 1 ≡ ends - x = omega arith in
      record {
        next = y;
        heads =
            record {
              four = omega (arith, long_become r ends 0 0 0, h.four);
              is = state_become r ends 0 0 0 h.four;
              at = position_become r ends 0 0 0 h.four ∙ omega arith;
              few = omega arith;
              bytes = tt;
            };
        comes_to = (rw t) ∙ ap (λ n. reported (body begins ends) y (each y (drop n (b ∷ l)))) d;
      }

  body_ends : (s : List ℕ) (x : ℕ) (r : Reader) → Within begins ends x r → x < ends → ends ≤ x + length s → Ended s x r
  unfolding each noting
  body_ends [] x r h low high = absurd (omega arith)
  body_ends (b ∷ l) x r h low high = elim (dec_lt (x + 1) ends) [
    | no k ↦ body_last b l x r h (omega arith)
    | yes k ↦ let n = body_on x r b h k in
        let m = body_ends l (x + 1) (after_byte r b).reader n.1 k (omega arith) in
        let e : suc (ends - (x + 1)) ≡ ends - x = omega arith in
        record { next = m.next; heads = m.heads; comes_to = (rw n.0) ∙ (m.comes_to ∙ ap (λ i. reported (body begins ends) m.next (each m.next (drop i (b ∷ l)))) e) }
  ]

-- a stream in which nothing more is finished
pub parsed_quiet : (y : Ran) (s : State) (x : ℕ) → y.reports ≡ [] → state_of y.reader ≡ s → position_of y.reader ≡ x → parsed_by y ≡ ending (ending_of s x)
unfolding parsed_by
parsed_quiet y s x e q p = rw (e, q, p)

-- and one in which an item is
pub parsed_item : (x : Item) (r : Reader) (n : ℕ) (y : Ran) (z : Parsed) → position_of r ≡ n → parsed_by y ≡ z → parsed_by (reported x r y) ≡ reporting x n z
unfolding parsed_by
parsed_item x r n y z p q = ap₂ (λ k w. reporting x k w) p q

-- a refusal ends it
pub stop_told : (x : Reader) (n : ℕ) (l : List ℕ) → parsed_by (noting (stop x n).told (stop x n).reader (each (stop x n).reader l)) ≡ parsed_by (each (stop x n).reader l)
unfolding stop noting
stop_told x n l = refl

pub parsed_stop : (x : Reader) (n : ℕ) (l : List ℕ) → 4 ≤ length x.numbers → cond (eqb n 8) 8 (cond (eqb n 10) 10 11) ≡ n → parsed_by (each (stop x n).reader l) ≡ ending (stops n (position_of x))
unfolding stop stage_of
parsed_stop x n l h k =
    let z = become x (position_of x) n 0 6 in
    let e : state_of z ≡ stopped n = state_become x (position_of x) n 0 6 h ∙ ap stopped k in
    ap parsed_by (stopped_each l n z e) ∙ parsed_quiet (ran [] z) (stopped n) (position_of x) refl e (position_become x (position_of x) n 0 6 h)

pub frames_open : (f o : ℕ) (s : List ℕ) → frames_in (suc f) o s ≡ opened_in (frames_in f) o s (opening (head_decided o) [] s)
unfolding frames_in opened_in frame_in body_in
frames_open f o s = refl

-- the byte that decides a header
pub decided : (o : ℕ) (q : List ℕ) → head_decided o q ≡ true → hopeless o q ≡ false → length q ≡ 3
unfolding head_decided
decided o q e f = eqb-true (length q) 3 (go (hopeless o q) f e)
  where
    go : (b : Bool) → b ≡ false → b || eqb (length q) 3 ≡ true → eqb (length q) 3 ≡ true
    go true z e = absurd (true≢false z)
    go false z e = e

long_enough : (o : ℕ) (q : List ℕ) → length q ≡ 3 → hopeless o q ≡ false → 17 ≤ length_in q
unfolding hopeless least_in
long_enough o q k e =
    let t : least_in q ≡ length_in q = rw (le-ltb (length q) 3 (omega arith)) in
    (frame_fits o (length_in q) (ap (no_frame o) (sym t) ∙ e)).0

-- frames after this one
module _ (again : (offset : ℕ) (s : List ℕ) → Parsed) (o : ℕ) (s : List ℕ)
    (later : (x : ℕ) (t : List ℕ) (r : Reader) → Heads x [] r → Bytes t → length t < length s → parsed_by (each r t) ≡ again x t) where
  body_parsed : (n : ℕ) (l : List ℕ) (z : Reader) → 1 ≤ n → Within (o + 3) (next_offset o n) (o + 3) z → Bytes l → length l < length s → (b : Bool) → ltb (length l) n ≡ b
      → parsed_by (each z l) ≡ body_in again o n l b
  unfolding body_in next_offset
  body_parsed n l z k w y m true e =
      let q = body_within (o + 3) (o + 3 + n) l (o + 3) z w (omega (arith, ltb-true (length l) n e)) in
      parsed_quiet (each z l) (in_body (o + 3) (o + 3 + n)) (o + 3 + length l) q.0 q.1.is q.1.at
  body_parsed n l z k w y m false e =
      let q = body_ends (o + 3) (o + 3 + n) l (o + 3) z w (omega arith) (omega (arith, ltb-false (length l) n e)) in
      let d : o + 3 + n - (o + 3) ≡ n = omega arith in
      let h : position_of q.next ≡ o + 3 + n = q.heads.at ∙ omega arith in
      ap parsed_by (q.comes_to ∙ ap (λ i. reported (body (o + 3) (o + 3 + n)) q.next (each q.next (drop i l))) d)
      ∙ parsed_item (body (o + 3) (o + 3 + n)) q.next (o + 3 + n) (each q.next (drop n l)) (again (o + 3 + n) (drop n l)) h
      (later (o + 3 + n) (drop n l) q.next q.heads (bytes_drop n l y) (omega (arith, length-drop n l)))

  frame_parsed : (r : Reader) (q l : List ℕ) → Met (head_decided o) (Heads o) [] s r q l → (b : Bool) → hopeless o q ≡ b → parsed_by (each r s) ≡ frame_in again o q l b
  unfolding frame_in headed_as noting stage_of
  frame_parsed r q l m true e =
      let x = m.reader in
      let n : length q ≡ length m.before + 1 = ap length m.is ∙ one_more m.before m.byte in
      let p : position_of x ≡ o + length q - 1 = m.took.at ∙ omega arith in
      let t : after_byte x m.byte ≡ stop x 11 =
      head_byte o m.before x m.byte m.took ∙ (ap (headed_as x (o + length m.before) o) (sym m.is) ∙ (rw e)) in
      ap parsed_by (m.comes_to ∙ ap (λ (v : Taken). noting v.told v.reader (each v.reader l)) t)
      ∙ (stop_told x 11 l ∙ (parsed_stop x 11 l m.took.four refl ∙ ap (λ k. ending (stops 11 k)) p))
  frame_parsed r q l m false e =
      let x = m.reader in
      let k : length q ≡ 3 = decided o q m.holds e in
      let n : length q ≡ length m.before + 1 = ap length m.is ∙ one_more m.before m.byte in
      let at : o + length m.before + 1 ≡ o + 3 = omega arith in
      let ends = next_offset o (length_in q) in
      let v = header (outcome (read_header q o)) in
      let z = become x (o + 3) (o + 3) ends 3 in
      let t : after_byte x m.byte ≡ taken_as z 1 (item v) =
      head_byte o m.before x m.byte m.took
      ∙ (ap (headed_as x (o + length m.before) o) (sym m.is)
      ∙ ((rw (e, le-ltb (length q) 3 (omega arith))) ∙ ap (λ i. taken_as (become x i i ends 3) 1 (item v)) at)) in
      let w : Within (o + 3) ends (o + 3) z =
      record {
        four = omega (arith, long_become x (o + 3) (o + 3) ends 3, m.took.four);
        is = state_become x (o + 3) (o + 3) ends 3 m.took.four;
        at = position_become x (o + 3) (o + 3) ends 3 m.took.four;
      } in
      ap parsed_by (m.comes_to ∙ ap (λ (y : Taken). noting y.told y.reader (each y.reader l)) t)
      ∙ parsed_item v z (o + 3) (each z l) (body_in again o (length_in q) l (ltb (length l) (length_in q))) w.at
      (body_parsed (length_in q) l z (omega (arith, long_enough o q k e)) w m.rest_bytes (omega (arith, ap length m.whole, length-append q l)) (ltb (length l) (length_in q)) refl)

  opened_parsed : (r : Reader) (v : Opening) → Opened (head_decided o) (Heads o) [] s r v → parsed_by (each r s) ≡ opened_in again o s v
  unfolding opened_in
  opened_parsed r not_yet m = parsed_quiet (each r s) (heading s) (o + length s) m.quiet m.took_all.is m.took_all.at
  opened_parsed r (settled q l) m = frame_parsed r q l m (hopeless o q) refl

-- the frames of a stream, however many
pub frames_each : (f o : ℕ) (s : List ℕ) (r : Reader) → Heads o [] r → Bytes s → length s < f → parsed_by (each r s) ≡ frames_in f o s
frames_each zero o s r h y k = absurd (omega arith)
frames_each (suc f) o s r h y k =
    opened_parsed (frames_in f) o s (λ x t z q b l. frames_each f x t z q b (omega arith)) r (opening (head_decided o) [] s) (opened (head_decided o) (Heads o) (head_onward o) s [] r h y)
    ∙ sym (frames_open f o s)
