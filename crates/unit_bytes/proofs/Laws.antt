-- Laws of a row's and a door's bytes: flags, parts, pieces written one behind the other, and that what is written is read back. Assumes nothing.
use Rattle.std.specs.Prelude.{ℕ, zero, suc, ◌+◌, ◌≤◌, ◌<◌, ◌≡◌, Bool, true, false, ◌⊎◌, length, get_or, take, drop}
use Rattle.std.proofs.Math.Path.{refl, ap}
use Rattle.std.proofs.Common.{sym, ◌∙◌, ap₂, inl, inr, arith, length-drop, take_at, drop_at, take_all}
use Rattle.std.proofs.lemmas.Bool.{false≢true}
use mathlib.Core.List.{List, [], ◌∷◌, ◌++◌, append_assoc}
use Rattle.std.proofs.Math.ListN.{length-append}
use Rattle.wire.specs.Bytes.{bytes_from, pasted, part}
use Rattle.wire.specs.ByteLaws.{pasted_fits, pasted_twice, bytes_from_part, length_part}
use Rattle.eno.specs.declared.SessionRecord.{SessionRecord}
use Rattle.unit.specs.declared.Position.{Position}
use Rattle.unit_bytes.specs.Layout.{row_size, row_identifier_at, row_secret_at, door_size, numbers_size, own_at, peer_at, identifier_at, secret_at, mandatory_at, resumed_at, held_at, row_numbers_at}
use Rattle.unit_bytes.specs.Content.{is_set, flag_of, flag_over, record_in, row_of, position_in, numbers_of, bytes_of}
use Rattle.unit_bytes.specs.Laws.{record_of, place_of, numbers_with, SizedRecord, SizedPosition}

-- a flag written over a byte is read back
pub set_over : (o : ℕ) (x : Bool) → is_set (flag_over o x) ≡ x
unfolding is_set flag_over flag_of
set_over zero false = refl
set_over zero true = refl
set_over (suc n) false = refl
set_over (suc n) true = refl

-- what is written for a flag: 0, 1 or the byte that stood there
pub over_writes : (o : ℕ) (x : Bool) → (flag_over o x ≡ 0) ⊎ ((flag_over o x ≡ 1) ⊎ (flag_over o x ≡ o))
unfolding flag_over flag_of
over_writes zero false = inl refl
over_writes zero true = inr (inl refl)
over_writes (suc n) false = inl refl
over_writes (suc n) true = inr (inr refl)

-- the three ways of a flag that is written, and the two of a flag that is read
pub over_empty : (o : ℕ) (x : Bool) → x ≡ false → 0 ≡ flag_over o x
unfolding flag_over flag_of
over_empty zero false e = refl
over_empty zero true e = absurd (false≢true (sym e))
over_empty (suc n) false e = refl
over_empty (suc n) true e = absurd (false≢true (sym e))

pub over_first : (o : ℕ) (x : Bool) → x ≡ true → o ≡ 0 → 1 ≡ flag_over o x
unfolding flag_over flag_of
over_first zero false e z = absurd (false≢true e)
over_first zero true e z = refl
over_first (suc n) x e z = absurd (omega arith)

pub over_stays : (o : ℕ) (x : Bool) → x ≡ true → 0 < o → o ≡ flag_over o x
unfolding flag_over flag_of
over_stays zero x e z = absurd (omega arith)
over_stays (suc n) false e z = absurd (false≢true e)
over_stays (suc n) true e z = refl

pub no_flag : (x : ℕ) → x ≡ 0 → false ≡ is_set x
unfolding is_set
no_flag zero e = refl
no_flag (suc x) e = absurd (omega arith)

pub a_flag : (x : ℕ) → 0 < x → true ≡ is_set x
unfolding is_set
a_flag zero h = absurd (omega arith)
a_flag (suc x) h = refl

-- a part between two others
pub bytes_between : (n i : ℕ) (p v w : List ℕ) → length p ≡ i → length v ≡ n → bytes_from n (p ++ v ++ w) i ≡ v
unfolding part
bytes_between n i p v w e f =
    bytes_from_part n (p ++ v ++ w) i (omega (arith, length-append p v, length-append (p ++ v) w))
    ∙ (ap (λ (l : List ℕ). take n (drop i l)) (append_assoc p v w)
    ∙ (ap (λ (l : List ℕ). take n l) (drop_at p (v ++ w) i e) ∙ take_at v w n f))

pub bytes_last : (n i : ℕ) (p v : List ℕ) → length p ≡ i → length v ≡ n → bytes_from n (p ++ v) i ≡ v
unfolding part
bytes_last n i p v e f =
    bytes_from_part n (p ++ v) i (omega (arith, length-append p v))
    ∙ (ap (λ (l : List ℕ). take n l) (drop_at p v i e) ∙ take_all n v (omega arith))

append_nil : (v : List ℕ) → v ++ [] ≡ v
append_nil [] = refl
append_nil (x ∷ v) = ap (λ (l : List ℕ). x ∷ l) (append_nil v)

no_rest : (v l : List ℕ) → length l ≡ 0 → v ++ l ≡ v
no_rest v [] h = append_nil v
no_rest v (x ∷ l) h = absurd (omega arith)

-- as many bytes written over all of a buffer
pub pasted_whole : (s v : List ℕ) → length s ≡ length v → pasted s 0 v ≡ v
pasted_whole s v e =
    pasted_fits s 0 v (omega arith)
    ∙ no_rest v (drop (0 + length v) s) (length-drop (0 + length v) s ∙ omega arith)

-- a part of b copied to a buffer of its size
pub copied_part : (n i : ℕ) (s v b : List ℕ) → v ≡ part i n b → length s ≡ n → i + n ≤ length b → pasted s 0 v ≡ bytes_from n b i
copied_part n i s v b e f h =
    let k : length v ≡ n = ap length e ∙ length_part i n b h in
    pasted_whole s v (f ∙ sym k) ∙ (e ∙ sym (bytes_from_part n b i h))

pub read_record : (b i s : List ℕ) → i ≡ bytes_from 18 b row_identifier_at → s ≡ bytes_from 32 b row_secret_at → record_of (get_or b 0 0) (get_or b 1 0) i s ≡ record_in b
unfolding record_in
read_record b i s e f = ap₂ (λ (x y : List ℕ). record_of (get_or b 0 0) (get_or b 1 0) x y) e f

four_from : (b : List ℕ) → get_or b 14 0 ∷ get_or b 15 0 ∷ get_or b 16 0 ∷ get_or b 17 0 ∷ [] ≡ bytes_from 4 b row_numbers_at
unfolding bytes_from
four_from b = refl

pub read_position : (b own peer i s : List ℕ) (m r h : Bool) → own ≡ bytes_from 40 b own_at → peer ≡ bytes_from 40 b peer_at → i ≡ bytes_from 18 b identifier_at → s ≡ bytes_from 32 b secret_at
    → m ≡ is_set (get_or b mandatory_at 0) → r ≡ is_set (get_or b resumed_at 0) → h ≡ is_set (get_or b held_at 0)
    → place_of b m r h own peer (record_of (get_or b 11 0) (get_or b 12 0) i s) (get_or b 14 0 ∷ get_or b 15 0 ∷ get_or b 16 0 ∷ get_or b 17 0 ∷ []) ≡ position_in b
unfolding position_in
read_position b own peer i s m r h e₁ e₂ e₃ e₄ e₅ e₆ e₇ = λ j. place_of b (e₅ j) (e₆ j) (e₇ j) (e₁ j) (e₂ j) (record_of (get_or b 11 0) (get_or b 12 0) (e₃ j) (e₄ j)) (four_from b j)

-- the pieces of a row and of a door, one written behind the other
next_piece : (s a b r q : List ℕ) (i : ℕ) → r ≡ pasted s 0 a → length a ≡ i → i + length b ≤ length s → q ≡ pasted r i b → q ≡ pasted s 0 (a ++ b)
next_piece s a b r q i e n h f =
    let z : i ≡ 0 + length a = omega arith in
    f ∙ (ap₂ (λ (l : List ℕ) (k : ℕ). pasted l k b) e z ∙ pasted_twice s a b 0 (omega arith))

pub row_pieces : (s a b c r₁ r₂ r₃ : List ℕ) → length s ≡ row_size → length a ≡ row_identifier_at → length b ≡ 18 → length c ≡ 32
    → r₁ ≡ pasted s 0 a → r₂ ≡ pasted r₁ row_identifier_at b → r₃ ≡ pasted r₂ row_secret_at c → r₃ ≡ a ++ b ++ c
row_pieces s a b c r₁ r₂ r₃ n na nb nc e₁ e₂ e₃ =
    let n₂ : length (a ++ b) ≡ row_secret_at = length-append a b ∙ omega arith in
    let n₃ : length (a ++ b ++ c) ≡ row_size = length-append (a ++ b) c ∙ omega arith in
    let f₂ = next_piece s a b r₁ r₂ row_identifier_at e₁ na (omega arith) e₂ in
    next_piece s (a ++ b) c r₂ r₃ row_secret_at f₂ n₂ (omega arith) e₃ ∙ pasted_whole s (a ++ b ++ c) (n ∙ sym n₃)

pub place_pieces : (s a b c d f r₁ r₂ r₃ r₄ r₅ : List ℕ) → length s ≡ door_size → length a ≡ numbers_size → length b ≡ 40 → length c ≡ 40 → length d ≡ 18 → length f ≡ 32
    → r₁ ≡ pasted s 0 a → r₂ ≡ pasted r₁ own_at b → r₃ ≡ pasted r₂ peer_at c → r₄ ≡ pasted r₃ identifier_at d → r₅ ≡ pasted r₄ secret_at f → r₅ ≡ a ++ b ++ c ++ d ++ f
place_pieces s a b c d f r₁ r₂ r₃ r₄ r₅ n na nb nc nd nf e₁ e₂ e₃ e₄ e₅ =
    let n₂ : length (a ++ b) ≡ peer_at = length-append a b ∙ omega arith in
    let n₃ : length (a ++ b ++ c) ≡ identifier_at = length-append (a ++ b) c ∙ omega arith in
    let n₄ : length (a ++ b ++ c ++ d) ≡ secret_at = length-append (a ++ b ++ c) d ∙ omega arith in
    let n₅ : length (a ++ b ++ c ++ d ++ f) ≡ door_size = length-append (a ++ b ++ c ++ d) f ∙ omega arith in
    let f₂ = next_piece s a b r₁ r₂ own_at e₁ na (omega arith) e₂ in
    let f₃ = next_piece s (a ++ b) c r₂ r₃ peer_at f₂ n₂ (omega arith) e₃ in
    let f₄ = next_piece s (a ++ b ++ c) d r₃ r₄ identifier_at f₃ n₃ (omega arith) e₄ in
    next_piece s (a ++ b ++ c ++ d) f r₄ r₅ secret_at f₄ n₄ (omega arith) e₅ ∙ pasted_whole s (a ++ b ++ c ++ d ++ f) (n ∙ sym n₅)

pub written_place : (o : List ℕ) (x : Position) (m r h : ℕ) → m ≡ flag_over (get_or o mandatory_at 0) x.door.mandatory → r ≡ flag_over (get_or o resumed_at 0) x.door.resumed → h ≡ flag_over (get_or o held_at 0) x.door.hand.held
    → numbers_with x m r h ++ x.door.own ++ x.door.peer ++ x.door.hand.session.identifier ++ x.door.hand.session.secret ≡ bytes_of o x
unfolding bytes_of numbers_of
written_place o x m r h e f g = λ i. numbers_with x (e i) (f i) (g i) ++ x.door.own ++ x.door.peer ++ x.door.hand.session.identifier ++ x.door.hand.session.secret

-- a record that is written is read back
pub record_read : (s : SessionRecord) → SizedRecord s → record_in (row_of s) ≡ s
unfolding record_in row_of
record_read s h =
    λ i.
    record {
      tep = s.tep;
      role = s.role;
      identifier = bytes_between 18 row_identifier_at (s.tep ∷ s.role ∷ []) s.identifier s.secret refl h.identifier_size i;
      secret = bytes_last 32 row_secret_at ((s.tep ∷ s.role ∷ []) ++ s.identifier) s.secret (length-append (s.tep ∷ s.role ∷ []) s.identifier ∙ omega (arith, h.identifier_size)) h.secret_size i;
    }

four : (l : List ℕ) → length l ≡ 4 → get_or l 0 0 ∷ get_or l 1 0 ∷ get_or l 2 0 ∷ get_or l 3 0 ∷ [] ≡ l
four [] h = absurd (omega arith)
four (a ∷ []) h = absurd (omega arith)
four (a ∷ b ∷ []) h = absurd (omega arith)
four (a ∷ b ∷ c ∷ []) h = absurd (omega arith)
four (a ∷ b ∷ c ∷ d ∷ []) h = refl
four (a ∷ b ∷ c ∷ d ∷ e ∷ l) h = absurd (omega arith)

rows_read : (o : List ℕ) (x : Position) → length x.rows ≡ 4 → bytes_from 4 (bytes_of o x) row_numbers_at ≡ x.rows
unfolding bytes_of numbers_of bytes_from
rows_read o x h = four x.rows h

module _ (o : List ℕ) (x : Position) (h : SizedPosition x) where
  n₂ : length (numbers_of o x ++ x.door.own) ≡ peer_at
  unfolding numbers_of
  n₂ = length-append (numbers_of o x) x.door.own ∙ omega (arith, h.own_size)

  n₃ : length (numbers_of o x ++ x.door.own ++ x.door.peer) ≡ identifier_at
  n₃ = length-append (numbers_of o x ++ x.door.own) x.door.peer ∙ omega (arith, h.peer_size, n₂)

  n₄ : length (numbers_of o x ++ x.door.own ++ x.door.peer ++ x.door.hand.session.identifier) ≡ secret_at
  n₄ = length-append (numbers_of o x ++ x.door.own ++ x.door.peer) x.door.hand.session.identifier ∙ omega (arith, h.hand_size.identifier_size, n₃)

  n₁ : length (numbers_of o x) ≡ numbers_size
  unfolding numbers_of
  n₁ = refl

  own_read : bytes_from 40 (bytes_of o x) own_at ≡ x.door.own
  unfolding bytes_of
  own_read =
      ap (λ (l : List ℕ). bytes_from 40 l own_at)
      (append_assoc (numbers_of o x ++ x.door.own ++ x.door.peer) x.door.hand.session.identifier x.door.hand.session.secret
      ∙ append_assoc (numbers_of o x ++ x.door.own) x.door.peer (x.door.hand.session.identifier ++ x.door.hand.session.secret))
      ∙ bytes_between 40 own_at (numbers_of o x) x.door.own (x.door.peer ++ (x.door.hand.session.identifier ++ x.door.hand.session.secret)) n₁ h.own_size

  peer_read : bytes_from 40 (bytes_of o x) peer_at ≡ x.door.peer
  unfolding bytes_of
  peer_read =
      ap (λ (l : List ℕ). bytes_from 40 l peer_at) (append_assoc (numbers_of o x ++ x.door.own ++ x.door.peer) x.door.hand.session.identifier x.door.hand.session.secret)
      ∙ bytes_between 40 peer_at (numbers_of o x ++ x.door.own) x.door.peer (x.door.hand.session.identifier ++ x.door.hand.session.secret) n₂ h.peer_size

  identifier_read : bytes_from 18 (bytes_of o x) identifier_at ≡ x.door.hand.session.identifier
  unfolding bytes_of
  identifier_read = bytes_between 18 identifier_at (numbers_of o x ++ x.door.own ++ x.door.peer) x.door.hand.session.identifier x.door.hand.session.secret n₃ h.hand_size.identifier_size

  secret_read : bytes_from 32 (bytes_of o x) secret_at ≡ x.door.hand.session.secret
  unfolding bytes_of
  secret_read = bytes_last 32 secret_at (numbers_of o x ++ x.door.own ++ x.door.peer ++ x.door.hand.session.identifier) x.door.hand.session.secret n₄ h.hand_size.secret_size

  -- a door that is written is read back, whatever bytes it was written over
  pub position_read : position_in (bytes_of o x) ≡ x
  unfolding position_in bytes_of numbers_of
  position_read =
      λ i.
      record {
        door =
            record {
              phase = x.door.phase;
              mandatory = set_over (get_or o mandatory_at 0) x.door.mandatory i;
              cause = x.door.cause;
              role = x.door.role;
              tep = x.door.tep;
              resumed = set_over (get_or o resumed_at 0) x.door.resumed i;
              own_length = x.door.own_length;
              peer_length = x.door.peer_length;
              own = own_read i;
              peer = peer_read i;
              hand =
                  record {
                    held = set_over (get_or o held_at 0) x.door.hand.held i;
                    session = record { tep = x.door.hand.session.tep; role = x.door.hand.session.role; identifier = identifier_read i; secret = secret_read i };
                  };
            };
        count = x.count;
        rows = rows_read o x h.rows_size i;
      }
