-- Finding the option: the TCP option area and the ENO option in it.
use Rattle.std.specs.Prelude.{ℕ, suc, ◌+◌, List, [], ◌∷◌, Bool, true, false, cond, ◌&&◌, ltb, leb, eqb, length, get_or}
use Rattle.wire.specs.Bytes.{part}
use Rattle.eno.specs.Walk.{Piece, end, fault, item, Reading, readable, faulty, items_of}

-- an option of an area: its kind, and where it stands, kind and length byte included
pub record Placed : Type 0 where
  pub kind : ℕ
  pub start : ℕ
  pub len : ℕ

-- the option that makes an area unreadable
pub record Fault : Type 0 where
  pub place : ℕ
  pub kind : ℕ

-- what stands at place i. Kind 0 ends the area and what follows is not read. Kind 1 is one byte.
-- Every other kind has a length byte, at least 2, counting kind and length, and must fit; a length byte past the end reads as 0.
unfoldable pub option_at : List ℕ → ℕ → Piece Fault Placed
option_at s i =
    let k = get_or s i 0 in
    let n = get_or s (i + 1) 0 in
    cond (ltb i (length s))
    (cond (eqb k 0) end
    (cond (eqb k 1) (item (record { kind = k; start = i; len = 1 }) (i + 1))
    (cond (leb 2 n && leb (i + n) (length s)) (item (record { kind = k; start = i; len = n }) (i + n))
    (fault (record { place = i; kind = k })))))
    end

-- the options of an area, or the fault that makes it unreadable as a whole
unfoldable pub options : List ℕ → Reading Fault Placed
options s = items_of (option_at s) (length s) 0

-- ENO is kind 69
abbrev pub eno_kind : ℕ
eno_kind = 0x45

-- the ENO options
unfoldable pub enos : List Placed → List Placed
enos [] = []
enos (o ∷ l) = cond (eqb o.kind eno_kind) (o ∷ enos l) (enos l)

-- what the finder finds
pub data Finding : Type 0 where
  refused : Finding
  unreadable : Fault → Finding
  missing : Finding
  found : (start len : ℕ) → Finding

-- in a SYN two ENO options count as none; in a non-SYN segment the first is handed back
unfoldable pub choose : Bool → List Placed → Finding
choose syn [] = missing
choose syn (o ∷ []) = found o.start o.len
choose syn (o ∷ p ∷ l) = cond syn missing (found o.start o.len)

unfoldable pub chosen : Bool → Reading Fault Placed → Finding
chosen syn (faulty f) = unreadable f
chosen syn (readable l) = choose syn (enos l)

-- an option area has 0 to 40 bytes
abbrev pub most_area : ℕ
most_area = 40

unfoldable pub finding : List ℕ → Bool → Finding
finding s syn = cond (ltb most_area (length s)) refused (chosen syn (options s))

-- the part of the area that is handed back: the option, or the empty part
unfoldable pub part_of : List ℕ → Finding → List ℕ
part_of s refused = []
part_of s (unreadable f) = []
part_of s missing = []
part_of s (found i n) = part i n s

-- the ENO option of a SYN's option area
unfoldable pub syn_option : List ℕ → List ℕ
syn_option s = part_of s (finding s true)

-- what the finder's companion says: found, none, unreadable with the option that makes the area so, or refused with a number
pub data Status : Type 0 where
  says_found : Status
  says_none : Status
  says_unreadable : Fault → Status
  says_refused : ℕ → Status

-- refused with 2: option area above 40 bytes
unfoldable pub status : Finding → Status
status refused = says_refused 2
status (unreadable f) = says_unreadable f
status missing = says_none
status (found i n) = says_found
