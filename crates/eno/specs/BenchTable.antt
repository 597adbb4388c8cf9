-- Cases K1 to K12 of document 01's bench table, with those on bit a, on the record R and on unreadable areas: one table, one claim about all rows.
use Rattle.std.specs.Prelude.{ℕ, ◌≡◌, List, [], ◌∷◌, ◌++◌, Bool, true, false, replicate}
use Rattle.std.proofs.Math.Option.{none, some}
use Rattle.wire.specs.Frame.{nonce}
use Rattle.eno.specs.Walk.{Reading, readable, faulty}
use Rattle.eno.specs.Area.{Finding, unreadable, missing, found, finding}
use Rattle.eno.specs.Cause.{numbered}
use Rattle.eno.specs.Judge.{fresh, resumed, Judged, refuse, plain, encrypt, role_of, judge}
use Rattle.eno.specs.Option.{Content, tep_with}
use Rattle.eno.specs.Content.{contents}
use Rattle.eno.specs.declared.SessionRecord.{SessionRecord}
use Rattle.eno.specs.declared.Cause.{Cause}

-- what a case gives
pub data Given : Type 0 where
  -- two options, A's and B's, each an area of its own; the first end's view
  areas : (own peer : List ℕ) → Given
  -- the same where this end makes it mandatory that the other is application-aware
  mandatory : (own peer : List ℕ) → Given
  -- two options with R in hand
  with_r : (own peer : List ℕ) → Given
  -- an option's b
  role : List ℕ → Given
  -- an option
  inside : List ℕ → Given
  -- an option area, and whether the segment is a SYN
  area : List ℕ → Bool → Given
  -- an offset and a fixed nonce
  frame : ℕ → List ℕ → Given

-- what it expects
pub data Expected : Type 0 where
  judgement : Judged → Expected
  bit : ℕ → Expected
  suboptions_are : Reading (Unit {0}) Content → Expected
  finds : Finding → Expected
  bytes : List ℕ → Expected

pub record Row : Type 0 where
  pub given : Given
  pub expected : Expected

abbrev low_half : List ℕ
low_half = 0 ∷ 1 ∷ 2 ∷ 3 ∷ 4 ∷ 5 ∷ 6 ∷ 7 ∷ 8 ∷ []

abbrev high_half : List ℕ
high_half = 9 ∷ 10 ∷ 11 ∷ 12 ∷ 13 ∷ 14 ∷ 15 ∷ 16 ∷ 17 ∷ []

-- R is TEP 23, role A, identifier 00 01 .. 11
abbrev record_r : SessionRecord
record_r = record { tep = 0x23; role = 0; identifier = low_half ++ high_half; secret = replicate 32 0x5a }

unfoldable pub answer : Given → Expected
unfolding judge role_of contents finding nonce
answer (areas own peer) = judgement (judge false none own peer)
answer (mandatory own peer) = judgement (judge true none own peer)
answer (with_r own peer) = judgement (judge false (some record_r) own peer)
answer (role o) = bit (role_of o)
answer (inside o) = suboptions_are (contents o)
answer (area s syn) = finds (finding s syn)
answer (frame offset fixed) = bytes (nonce fixed offset)

abbrev row : Given → Expected → Row
row g e = record { given = g; expected = e }

abbrev nine_bytes : List ℕ
nine_bytes = 1 ∷ 2 ∷ 3 ∷ 4 ∷ 5 ∷ 6 ∷ 7 ∷ 8 ∷ 9 ∷ []

abbrev ill_formed : Expected
ill_formed = suboptions_are (faulty tt)

-- the option of the kind k at the place i makes the area unreadable
abbrev fault_at : ℕ → ℕ → Finding
fault_at i k = unreadable (record { place = i; kind = k })

abbrev broken_at : ℕ → ℕ → Cause
broken_at i k = record { reason = 1; place = i; kind = k }

unfoldable pub table : List Row
table =
    -- K1: 23 fresh, transcript those 8 bytes; A's view, then B's
    row (areas (0x45 ∷ 4 ∷ 0x21 ∷ 0x23 ∷ []) (0x45 ∷ 4 ∷ 1 ∷ 0x23 ∷ [])) (judgement (encrypt 0 0x23 fresh (0x45 ∷ 4 ∷ 0x21 ∷ 0x23 ∷ 0x45 ∷ 4 ∷ 1 ∷ 0x23 ∷ [])))
    ∷ row (areas (0x45 ∷ 4 ∷ 1 ∷ 0x23 ∷ []) (0x45 ∷ 4 ∷ 0x21 ∷ 0x23 ∷ [])) (judgement (encrypt 1 0x23 fresh (0x45 ∷ 4 ∷ 0x21 ∷ 0x23 ∷ 0x45 ∷ 4 ∷ 1 ∷ 0x23 ∷ [])))
    -- K2: 21
    ∷ row (areas (0x45 ∷ 5 ∷ 0x21 ∷ 0x23 ∷ 0x24 ∷ []) (0x45 ∷ 5 ∷ 1 ∷ 0x23 ∷ 0x21 ∷ [])) (judgement (encrypt 0 0x21 fresh (0x45 ∷ 5 ∷ 0x21 ∷ 0x23 ∷ 0x24 ∷ 0x45 ∷ 5 ∷ 1 ∷ 0x23 ∷ 0x21 ∷ [])))
    -- bit a at both ends, mandatory at each: 23 fresh; A's view, then B's
    ∷ row (mandatory (0x45 ∷ 5 ∷ 2 ∷ 0x21 ∷ 0x23 ∷ []) (0x45 ∷ 4 ∷ 3 ∷ 0x23 ∷ [])) (judgement (encrypt 0 0x23 fresh (0x45 ∷ 5 ∷ 2 ∷ 0x21 ∷ 0x23 ∷ 0x45 ∷ 4 ∷ 3 ∷ 0x23 ∷ [])))
    ∷ row (mandatory (0x45 ∷ 4 ∷ 3 ∷ 0x23 ∷ []) (0x45 ∷ 5 ∷ 2 ∷ 0x21 ∷ 0x23 ∷ [])) (judgement (encrypt 1 0x23 fresh (0x45 ∷ 5 ∷ 2 ∷ 0x21 ∷ 0x23 ∷ 0x45 ∷ 4 ∷ 3 ∷ 0x23 ∷ [])))
    -- at A alone: reason 5 where it is mandatory, and 23 fresh where it is not
    ∷ row (mandatory (0x45 ∷ 5 ∷ 2 ∷ 0x21 ∷ 0x23 ∷ []) (0x45 ∷ 4 ∷ 1 ∷ 0x23 ∷ [])) (judgement (plain (numbered 5)))
    ∷ row (areas (0x45 ∷ 5 ∷ 2 ∷ 0x21 ∷ 0x23 ∷ []) (0x45 ∷ 4 ∷ 1 ∷ 0x23 ∷ [])) (judgement (encrypt 0 0x23 fresh (0x45 ∷ 5 ∷ 2 ∷ 0x21 ∷ 0x23 ∷ 0x45 ∷ 4 ∷ 1 ∷ 0x23 ∷ [])))
    -- K3: 21
    ∷ row (areas (0x45 ∷ 4 ∷ 0x21 ∷ 0x23 ∷ []) (0x45 ∷ 5 ∷ 1 ∷ 0x21 ∷ 0x2f ∷ [])) (judgement (encrypt 0 0x21 fresh (0x45 ∷ 4 ∷ 0x21 ∷ 0x23 ∷ 0x45 ∷ 5 ∷ 1 ∷ 0x21 ∷ 0x2f ∷ [])))
    -- K4: reason 4
    ∷ row (areas (0x45 ∷ 3 ∷ 0x23 ∷ []) (0x45 ∷ 3 ∷ 0x23 ∷ [])) (judgement (plain (numbered 4)))
    -- K5: b = 0
    ∷ row (role (0x45 ∷ 5 ∷ 0 ∷ 1 ∷ 0x23 ∷ [])) (bit 0)
    -- K6: TEPs 23 and 21
    ∷ row (inside (0x45 ∷ 14 ∷ 0x88 ∷ 0xa3 ∷ nine_bytes ++ 0x21 ∷ [])) (suboptions_are (readable (tep_with true 0xa3 nine_bytes ∷ tep_with false 0x21 [] ∷ [])))
    -- K7: K6 with 89: 23 alone, ten data bytes
    ∷ row (inside (0x45 ∷ 14 ∷ 0x89 ∷ 0xa3 ∷ nine_bytes ++ 0x21 ∷ [])) (suboptions_are (readable (tep_with true 0xa3 (nine_bytes ++ 0x21 ∷ []) ∷ [])))
    -- K8: K6 with 8a: ill-formed
    ∷ row (inside (0x45 ∷ 14 ∷ 0x8a ∷ 0xa3 ∷ nine_bytes ++ 0x21 ∷ [])) ill_formed
    -- K9: ill-formed, each
    ∷ row (inside (0x45 ∷ 4 ∷ 0x80 ∷ 0x21 ∷ [])) ill_formed
    ∷ row (inside (0x45 ∷ 3 ∷ 0x80 ∷ [])) ill_formed
    ∷ row (inside (0x45 ∷ 4 ∷ 0x80 ∷ 0xa3 ∷ [])) ill_formed
    -- K10: option at 2, three bytes
    ∷ row (area (1 ∷ 1 ∷ 0x45 ∷ 3 ∷ 0x23 ∷ 0 ∷ 0xff ∷ []) true) (finds (found 2 3))
    -- K11: none
    ∷ row (area (2 ∷ 4 ∷ 5 ∷ 0xb4 ∷ 0x45 ∷ 3 ∷ 0x23 ∷ 0x45 ∷ 3 ∷ 0x21 ∷ []) true) (finds missing)
    -- K12: bb be ab be, seven ff, b4
    ∷ row (frame 75 (replicate 12 0xff)) (bytes (0xbb ∷ 0xbe ∷ 0xab ∷ 0xbe ∷ replicate 7 0xff ++ 0xb4 ∷ []))
    -- R in hand, 45 0d 21 a3 00 .. 08 sent. Answer 45 0d 01 a3 09 .. 11: resumed
    ∷ row (with_r (0x45 ∷ 13 ∷ 0x21 ∷ 0xa3 ∷ low_half) (0x45 ∷ 13 ∷ 1 ∷ 0xa3 ∷ high_half)) (judgement (encrypt 0 0xa3 resumed (0x45 ∷ 13 ∷ 0x21 ∷ 0xa3 ∷ low_half ++ 0x45 ∷ 13 ∷ 1 ∷ 0xa3 ∷ high_half)))
    -- answer 45 0d 01 a3 00 .. 08: reason 6
    ∷ row (with_r (0x45 ∷ 13 ∷ 0x21 ∷ 0xa3 ∷ low_half) (0x45 ∷ 13 ∷ 1 ∷ 0xa3 ∷ low_half)) (judgement (plain (numbered 6)))
    -- answer 45 04 01 23: fresh
    ∷ row (with_r (0x45 ∷ 13 ∷ 0x21 ∷ 0xa3 ∷ low_half) (0x45 ∷ 4 ∷ 1 ∷ 0x23 ∷ [])) (judgement (encrypt 0 0x23 fresh (0x45 ∷ 13 ∷ 0x21 ∷ 0xa3 ∷ low_half ++ 0x45 ∷ 4 ∷ 1 ∷ 0x23 ∷ [])))
    -- both areas unreadable: this end's own
    ∷ row (areas (2 ∷ []) (1 ∷ 3 ∷ 1 ∷ [])) (judgement (plain (broken_at 0 2)))
    -- its own readable: the other side's
    ∷ row (areas (0x45 ∷ 3 ∷ 0x23 ∷ []) (1 ∷ 3 ∷ 1 ∷ [])) (judgement (plain (broken_at 1 3)))
    ∷ row (areas (0x45 ∷ 3 ∷ 0x23 ∷ []) (0x45 ∷ 3 ∷ 0x23 ∷ 2 ∷ [])) (judgement (plain (broken_at 3 2)))
    -- a refused area before an unreadable one, this before one with no option
    ∷ row (areas (2 ∷ []) (replicate 41 1)) (judgement (refuse 2))
    ∷ row (areas [] (1 ∷ 3 ∷ 1 ∷ [])) (judgement (plain (broken_at 1 3)))
    -- the length byte absent, behind whole options
    ∷ row (area (1 ∷ 1 ∷ 2 ∷ 4 ∷ 5 ∷ 0xb4 ∷ 8 ∷ []) true) (finds (fault_at 6 8))
    -- below 2: ENO itself
    ∷ row (area (0x45 ∷ 1 ∷ []) true) (finds (fault_at 0 0x45))
    -- the largest place
    ∷ row (area (replicate 39 1 ++ 0x45 ∷ []) true) (finds (fault_at 39 0x45))
    -- too long
    ∷ row (area (1 ∷ 8 ∷ 4 ∷ 0 ∷ []) true) (finds (fault_at 1 8))
    -- behind an ENO option, and behind two
    ∷ row (area (0x45 ∷ 3 ∷ 0x23 ∷ 2 ∷ []) true) (finds (fault_at 3 2))
    ∷ row (area (0x45 ∷ 3 ∷ 0x23 ∷ 2 ∷ []) false) (finds (fault_at 3 2))
    ∷ row (area (0x45 ∷ 2 ∷ 0x45 ∷ 2 ∷ 2 ∷ 1 ∷ []) true) (finds (fault_at 4 2))
    ∷ row (area (0x45 ∷ 2 ∷ 0x45 ∷ 2 ∷ 2 ∷ 1 ∷ []) false) (finds (fault_at 4 2))
    -- an end mark hides what follows
    ∷ row (area (0x45 ∷ 3 ∷ 0x23 ∷ 0 ∷ 2 ∷ []) true) (finds (found 0 3))
    ∷ []
