-- Inside a SYN-form option (RFC 8547, 4.1 to 4.4).
use Rattle.std.specs.Prelude.{ℕ, suc, ◌+◌, ◌-◌, ◌/◌, ◌%◌, List, [], ◌∷◌, Bool, true, false, cond, ◌&&◌, ltb, leb, length, get_or}
use Rattle.eno.specs.Walk.{Piece, end, fault, item, Reading, readable, faulty, listed, items_of}

-- a TEP as it was sent: whether a length byte stands before it, its byte with v, and where its data stands in the option
pub record Sent : Type 0 where
  pub counted : Bool
  pub byte : ℕ
  pub start : ℕ
  pub len : ℕ

pub data Suboption : Type 0 where
  global : ℕ → Suboption
  tep : Sent → Suboption

abbrev at : Bool → ℕ → ℕ → ℕ → Suboption
at counted byte start len = tep (record { counted = counted; byte = byte; start = start; len = len })

-- what stands at place i of the option o:
-- 00-1f a global suboption; 20-7f a TEP without data; a0-ff a TEP whose data runs to the end of the option, perhaps zero bytes;
-- 80-9f a length byte: the next byte must be a0-ff, and (low five bits) + 1 data bytes follow it. A byte past the end reads as 0.
unfoldable pub suboption_at : List ℕ → ℕ → Piece (Unit {0}) Suboption
suboption_at o i =
    let x = get_or o i 0 in
    let y = get_or o (i + 1) 0 in
    let n = x - 0x80 + 1 in
    cond (ltb i (length o))
    (cond (ltb x 0x20) (item (global x) (i + 1))
    (cond (ltb x 0x80) (item (at false x (i + 1) 0) (i + 1))
    (cond (leb 0xa0 x) (item (at false x (i + 1) (length o - (i + 1))) (length o))
    (cond (leb 0xa0 y && leb (i + 2 + n) (length o)) (item (at true y (i + 2) n) (i + 2 + n))
    (fault tt)))))
    end

-- the suboptions of an option, which stand behind its kind and length byte; faulty where it is ill-formed
unfoldable pub suboptions : List ℕ → Reading (Unit {0}) Suboption
suboptions o = items_of (suboption_at o) (length o) 2

unfoldable pub is_ill_formed : Reading (Unit {0}) Suboption → Bool
is_ill_formed (readable l) = false
is_ill_formed (faulty f) = true

-- the global suboptions
unfoldable pub globals : List Suboption → List ℕ
globals [] = []
globals (global x ∷ l) = x ∷ globals l
globals (tep x ∷ l) = globals l

-- only the first counts; none present means 00
unfoldable pub global_byte : List Suboption → ℕ
global_byte l = get_or (globals l) 0 0

-- bit 0 is b (role), bit 1 is a (application-aware)
unfoldable pub role_bit : List Suboption → ℕ
role_bit l = global_byte l % 2

unfoldable pub aware_bit : List Suboption → ℕ
aware_bit l = global_byte l / 2 % 2

-- the TEPs, in the option's order
unfoldable pub teps : List Suboption → List Sent
teps [] = []
teps (global x ∷ l) = teps l
teps (tep x ∷ l) = x ∷ teps l

-- a TEP's name is the low seven bits of its byte
abbrev pub name : Sent → ℕ
name x = x.byte % 128
