-- Roles and the negotiated TEP: what two option areas, this end's own and the other side's, come to.
use Rattle.std.specs.Prelude.{ℕ, suc, ◌+◌, List, [], ◌∷◌, ◌++◌, Bool, true, false, cond, not, ◌&&◌, ◌||◌, ltb, leb, eqb, length}
use Rattle.std.proofs.Math.Option.{Option, none, some}
use Rattle.wire.specs.Bytes.{part, same_bytes}
use Rattle.eno.specs.Walk.{listed}
use Rattle.eno.specs.Area.{Finding, refused, unreadable, missing, found, finding, syn_option, most_area}
use Rattle.eno.specs.Cause.{numbered, blame}
use Rattle.eno.specs.Suboption.{Suboption, Sent, suboptions, is_ill_formed, role_bit, aware_bit, teps, name}
use Rattle.eno.specs.Tep.{is_known}
use Rattle.eno.specs.Session.{sent_half, expected_half, half_size}
use Rattle.eno.specs.declared.SessionRecord.{SessionRecord}
use Rattle.eno.specs.declared.Cause.{Cause}

-- data of a known TEP: v = 0 or under 9 bytes is fresh, 9 to 17 bytes is resumption, 18 or more is bad
unfoldable pub is_fresh : Sent → Bool
is_fresh x = ltb x.byte 0x80 || ltb x.len 9

unfoldable pub is_bad : Sent → Bool
is_bad x = not (is_fresh x) && leb 18 x.len

unfoldable pub is_resumption : Sent → Bool
is_resumption x = not (is_fresh x) && ltb x.len 18

-- the identifier half that resumption data begins with
unfoldable pub half_of : List ℕ → Sent → List ℕ
half_of o x = part x.start half_size o

-- how a connection is keyed
pub data Way : Type 0 where
  fresh : Way
  resumed : Way

abbrev pub way_if : Bool → Way
way_if true = resumed
way_if false = fresh

abbrev pub is_resumed : Way → Bool
is_resumed fresh = false
is_resumed resumed = true

-- this end has in hand a record of the TEP t whose sent half is its own and whose expected half is the other side's
unfoldable pub matches : Option SessionRecord → ℕ → List ℕ → List ℕ → Bool
matches none t mine theirs = false
matches (some r) t mine theirs = eqb r.tep t && same_bytes mine (sent_half r) && same_bytes theirs (expected_half r)

-- the TEPs named t
unfoldable pub named : ℕ → List Sent → List Sent
named t [] = []
named t (x ∷ l) = cond (eqb (name x) t) (x ∷ named t l) (named t l)

-- the one that was sent exactly once
unfoldable pub once : List Sent → Option Sent
once [] = none
once (x ∷ []) = some x
once (x ∷ y ∷ l) = none

-- one of two, this end's own or the other side's: host B's is whichever was sent with b = 1
unfoldable pub of_b : {X : Type 0} → Bool → X → X → X
of_b own_is_b own peer = cond own_is_b own peer

unfoldable pub of_a : {X : Type 0} → Bool → X → X → X
of_a own_is_b own peer = cond own_is_b peer own

-- what this end judges by: the record in hand, its own option and the other side's, and whether its own is host B's
pub record Sides : Type 0 where
  pub hand : Option SessionRecord
  pub own : List ℕ
  pub peer : List ℕ
  pub own_is_b : Bool

-- two suboptions of the TEP t, neither bad: if B's is fresh the key exchange is fresh, whatever A's is;
-- if both are resumption and the record in hand matches, the session is resumed
unfoldable pub way_of : Sides → ℕ → Sent → Sent → Option Way
way_of s t mine theirs =
    cond (is_bad mine || is_bad theirs) none
    (cond (is_fresh (of_b s.own_is_b mine theirs)) (some fresh)
    (cond (is_resumption mine && is_resumption theirs && matches s.hand t (half_of s.own mine) (half_of s.peer theirs)) (some resumed)
    none))

-- each side sent it exactly once
unfoldable pub way_of_both : Sides → ℕ → Option Sent → Option Sent → Option Way
way_of_both s t none theirs = none
way_of_both s t (some mine) none = none
way_of_both s t (some mine) (some theirs) = way_of s t mine theirs

-- the TEPs of an option, in its order
unfoldable pub teps_of : List ℕ → List Sent
teps_of o = teps (listed (suboptions o))

-- whether the TEP t is valid, and in which way
unfoldable pub validity : Sides → ℕ → Option Way
validity s t = cond (is_known t) (way_of_both s t (once (named t (teps_of s.own))) (once (named t (teps_of s.peer)))) none

-- the negotiated TEP: its byte, with v, and the way
pub record Negotiated : Type 0 where
  pub byte : ℕ
  pub way : Way

abbrev pub negotiated_by : Sent → Option Way → Option Negotiated
negotiated_by x none = none
negotiated_by x (some w) = some (record { byte = x.byte; way = w })

abbrev pub or_else : {X : Type 0} → Option X → Option X → Option X
or_else none y = y
or_else (some x) y = some x

-- the last valid one of a list
unfoldable pub last_valid : (ℕ → Option Way) → List Sent → Option Negotiated
last_valid valid [] = none
last_valid valid (x ∷ l) = or_else (last_valid valid l) (negotiated_by x (valid (name x)))

-- what an end comes to: a refusal, plain TCP with its reason, or role, TEP byte with v, way and transcript
pub data Judged : Type 0 where
  refuse : ℕ → Judged
  plain : Cause → Judged
  encrypt : (role byte : ℕ) → Way → (transcript : List ℕ) → Judged

-- the negotiated TEP is the last valid one in B's option; the transcript is A's option followed by B's; reason 6 where no TEP is valid
unfoldable pub agreed : ℕ → Sides → Option Negotiated → Judged
agreed role s none = plain (numbered 6)
agreed role s (some n) = encrypt role n.byte n.way (of_a s.own_is_b s.own s.peer ++ of_b s.own_is_b s.own s.peer)

unfoldable pub negotiate : ℕ → Sides → Judged
negotiate role s = agreed role s (last_valid (validity s) (teps_of (of_b s.own_is_b s.own s.peer)))

-- the first of a list of tests that holds decides
unfoldable pub first_of : List (Bool × Judged) → Judged → Judged
first_of [] last = last
first_of (t ∷ l) last = cond t.0 t.1 (first_of l last)

abbrev pub is_unreadable : Finding → Bool
is_unreadable refused = false
is_unreadable (unreadable f) = true
is_unreadable missing = false
is_unreadable (found i n) = false

abbrev pub is_missing : Finding → Bool
is_missing refused = false
is_missing (unreadable f) = false
is_missing missing = true
is_missing (found i n) = false

abbrev pub too_long : List ℕ → Bool
too_long s = ltb most_area (length s)

-- b and a of an option
unfoldable pub role_of : List ℕ → ℕ
role_of o = role_bit (listed (suboptions o))

unfoldable pub aware_of : List ℕ → ℕ
aware_of o = aware_bit (listed (suboptions o))

-- the judgement of two option areas, by whether this end is mandatory-aware and the record in hand. Reasons for plain TCP, lowest first:
-- 1 unreadable area; 2 no ENO option; 3 ill-formed; 4 equal b; 5 mandatory-aware and the other side's a = 0; 6 no valid TEP
unfoldable pub judge : Bool → Option SessionRecord → List ℕ → List ℕ → Judged
judge mandatory hand ownArea peerArea =
    let own = syn_option ownArea in
    let peer = syn_option peerArea in
    first_of (
    (too_long ownArea || too_long peerArea, refuse 2)
    ∷ (is_unreadable (finding ownArea true), plain (blame (finding ownArea true)))
    ∷ (is_unreadable (finding peerArea true), plain (blame (finding peerArea true)))
    ∷ (is_missing (finding ownArea true) || is_missing (finding peerArea true), plain (numbered 2))
    ∷ (is_ill_formed (suboptions own) || is_ill_formed (suboptions peer), plain (numbered 3))
    ∷ (eqb (role_of own) (role_of peer), plain (numbered 4))
    ∷ (mandatory && eqb (aware_of peer) 0, plain (numbered 5))
    ∷ []
    )
    (negotiate (role_of own) (record { hand = hand; own = own; peer = peer; own_is_b = eqb (role_of own) 1 }))
