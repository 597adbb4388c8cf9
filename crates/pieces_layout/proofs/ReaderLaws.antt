-- A reader whose numbers are set: its position and what it has come to. Assumes nothing.
use Rattle.std.specs.Prelude.{ℕ, ◌≤◌, ◌≡◌, Bool, cond, ◌&&◌, ◌||◌, ltb}
use Rattle.std.proofs.Math.Path.{refl}
use Rattle.std.proofs.Common.{sym, ◌∙◌, ap, true≢false, arith, ltb-false, le-ltb}
use Rattle.std.proofs.Math.Bool.{true, false}
use Rattle.std.proofs.lemmas.Bool.{false≢true}
use Rattle.std.proofs.Math.ListN.{length, get_or, set, length-set}
use Rattle.std.proofs.Math.Seq.{get_or-set_same, get_or-set_other}
use Rattle.pieces_layout.specs.Reader.{Reader, numbers_n, gathered_n, own_from, position_of, first_of, second_of, stage_of, state_of, moved, become, stored, is_init, no_room}
use Rattle.pieces_layout.specs.ReaderLaws.{Room}

pub has_room : (r : Reader) → no_room r ≡ false → Room r
unfolding no_room numbers_n
has_room r e = go (ltb (length r.numbers) 4) refl (is_init (state_of r)) refl (ltb (length r.gathered) gathered_n) refl e
  where
    go : (a : Bool) → ltb (length r.numbers) 4 ≡ a → (b : Bool) → is_init (state_of r) ≡ b → (c : Bool) → ltb (length r.gathered) gathered_n ≡ c → a || b && c ≡ false → Room r
    go true p b q c s e = absurd (true≢false e)
    go false p true q true s e = absurd (true≢false e)
    go false p true q false s e = record { four = ltb-false _ _ p; wide = λ _. ltb-false _ _ s }
    go false p false q c s e = record { four = ltb-false _ _ p; wide = λ z. absurd (false≢true (sym q ∙ z)) }

pub room_has : (r : Reader) → Room r → no_room r ≡ false
unfolding no_room numbers_n
room_has r h = go (is_init (state_of r)) refl
  where
    go : (b : Bool) → is_init (state_of r) ≡ b → ltb (length r.numbers) 4 || b && ltb (length r.gathered) gathered_n ≡ false
    go true e = rw (le-ltb (length r.numbers) 4 h.four, le-ltb (length r.gathered) gathered_n (h.wide e))
    go false e = rw (le-ltb (length r.numbers) 4 h.four)

-- all four numbers
module _ (r : Reader) (p a b n : ℕ) where
  pub long_become : length (become r p a b n).numbers ≡ length r.numbers
  unfolding become
  long_become = rw (length-set, length-set, length-set, length-set)

  module _ (h : 4 ≤ length r.numbers) where
    pub state_become : state_of (become r p a b n) ≡ stage_of n a b
    unfolding state_of first_of second_of become
    state_become =
        let w = r.numbers in
        let w1 = set w 0 p in
        let w2 = set w1 1 a in
        let w3 = set w2 2 b in
        let l1 = length-set w 0 p in
        let l2 = length-set w1 1 a in
        let l3 = length-set w2 2 b in
        let e3 : get_or (set w3 3 n) 3 0 ≡ n = get_or-set_same w3 3 n 0 (omega arith) in
        let e2 : get_or (set w3 3 n) 2 0 ≡ b = get_or-set_other w3 3 2 n 0 (λ e. omega arith) ∙ get_or-set_same w2 2 b 0 (omega arith) in
        let e1 : get_or (set w3 3 n) 1 0 ≡ a = get_or-set_other w3 3 1 n 0 (λ e. omega arith) ∙ (get_or-set_other w2 2 1 b 0 (λ e. omega arith) ∙ get_or-set_same w1 1 a 0 (omega arith)) in
        rw (e3, e2, e1)

    pub position_become : position_of (become r p a b n) ≡ p
    unfolding position_of become
    position_become =
        let w1 = set r.numbers 0 p in
        let w2 = set w1 1 a in
        let w3 = set w2 2 b in
        get_or-set_other w3 3 0 n 0 (λ e. omega arith)
        ∙ (get_or-set_other w2 2 0 b 0 (λ e. omega arith) ∙ (get_or-set_other w1 1 0 a 0 (λ e. omega arith) ∙ get_or-set_same r.numbers 0 p 0 (omega arith)))

    pub second_become : second_of (become r p a b n) ≡ b
    unfolding second_of become
    second_become =
        let w = r.numbers in
        let w1 = set w 0 p in
        let w2 = set w1 1 a in
        let w3 = set w2 2 b in
        let l1 = length-set w 0 p in
        let l2 = length-set w1 1 a in
        get_or-set_other w3 3 2 n 0 (λ e. omega arith) ∙ get_or-set_same w2 2 b 0 (omega arith)

    pub room_become : is_init (stage_of n a b) ≡ false → Room (become r p a b n)
    room_become q = record { four = omega (arith, long_become); wide = λ e. absurd (true≢false (sym e ∙ (ap is_init state_become ∙ q))) }

-- the position alone
module _ (r : Reader) (p : ℕ) where
  pub state_moved : state_of (moved r p) ≡ state_of r
  unfolding state_of first_of second_of moved
  state_moved =
      let w = r.numbers in
      rw (get_or-set_other w 0 3 p 0 (λ e. omega arith), get_or-set_other w 0 2 p 0 (λ e. omega arith), get_or-set_other w 0 1 p 0 (λ e. omega arith))

  pub second_moved : second_of (moved r p) ≡ second_of r
  unfolding second_of moved
  second_moved = get_or-set_other r.numbers 0 2 p 0 (λ e. omega arith)

  pub position_moved : 4 ≤ length r.numbers → position_of (moved r p) ≡ p
  unfolding position_of moved
  position_moved h = get_or-set_same r.numbers 0 p 0 (omega arith)

  pub room_moved : Room r → Room (moved r p)
  unfolding moved
  room_moved h = record { four = omega (arith, length-set r.numbers 0 p, h.four); wide = λ e. h.wide (ap is_init (sym state_moved) ∙ e) }

-- a byte that is gathered
module _ (r : Reader) (n b : ℕ) where
  pub long_stored : length (stored r n b).gathered ≡ length r.gathered
  unfolding stored
  long_stored = go (ltb n own_from)
    where
      go : (t : Bool) → length (cond t (set r.gathered n b) r.gathered) ≡ length r.gathered
      go true = length-set r.gathered n b
      go false = refl

  pub room_stored : Room r → Room (stored r n b)
  unfolding stored state_of first_of second_of
  room_stored h = record { four = h.four; wide = λ e. omega (arith, h.wide e, long_stored) }
