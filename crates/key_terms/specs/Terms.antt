-- What a resumed connection is keyed by (RFC 8548, 3.3 and 3.5): this end's original role and the two resumption nonces, read from the transcript.
use Rattle.std.specs.Prelude.{ℕ, ◌+◌, ◌-◌, List, Bool, cond, not, ◌&&◌, leb, eqb, length, get_or, drop}
use Rattle.std.proofs.Math.Option.{Option, none, some}
use Rattle.wire.specs.Bytes.{part, same_bytes}
use Rattle.eno.specs.Area.{eno_kind, most_area}
use Rattle.eno.specs.Suboption.{Sent, suboptions, is_ill_formed}
use Rattle.eno.specs.Session.{half_size}
use Rattle.eno.specs.Judge.{is_resumption, named, once, teps_of}

-- a transcript is host A's option followed by host B's: it is cut by the length byte of the first
unfoldable pub option_of_a : List ℕ → List ℕ
option_of_a t = part 0 (get_or t 1 0) t

unfoldable pub option_of_b : List ℕ → List ℕ
option_of_b t = drop (get_or t 1 0) t

-- a whole ENO option: kind 45, a length byte that is its length, at most 40 bytes
unfoldable pub is_whole : List ℕ → Bool
is_whole o = eqb (get_or o 0 0) eno_kind && eqb (get_or o 1 0) (length o) && leb (length o) most_area

-- where the data of a suboption stands in its option
pub record Data : Type 0 where
  pub start : ℕ
  pub len : ℕ

-- data of 9 to 17 bytes, of a TEP that was sent exactly once
unfoldable pub data_of : Option Sent → Option Data
data_of none = none
data_of (some x) = cond (is_resumption x) (some (record { start = x.start; len = x.len })) none

-- the resumption data of the TEP t in an option that is whole and well-formed
unfoldable pub resumption_data : ℕ → List ℕ → Option Data
resumption_data t o = cond (is_whole o && not (is_ill_formed (suboptions o))) (data_of (once (named t (teps_of o)))) none

-- an identifier half, then the nonce
unfoldable pub half_in : List ℕ → Data → List ℕ
half_in o d = part d.start half_size o

unfoldable pub nonce_in : List ℕ → Data → List ℕ
nonce_in o d = part (d.start + half_size) (d.len - half_size) o

-- original role A sends bytes 0 to 8 of the identifier and B bytes 9 to 17; equal halves do not tell the role
unfoldable pub original_role : (identifier mine theirs : List ℕ) → Option ℕ
original_role identifier mine theirs =
    let first = part 0 half_size identifier in
    let second = part half_size half_size identifier in
    cond (same_bytes first second) none
    (cond (same_bytes mine first && same_bytes theirs second) (some 0)
    (cond (same_bytes mine second && same_bytes theirs first) (some 1)
    none))

-- this end's original role, and the nonces: first that of the end whose original role was A
pub record Terms : Type 0 where
  pub original : ℕ
  pub nonce_a : List ℕ
  pub nonce_b : List ℕ

unfoldable pub keyed_by : (mine theirs : List ℕ) → Option ℕ → Option Terms
keyed_by mine theirs none = none
keyed_by mine theirs (some r) = some (record { original = r; nonce_a = cond (eqb r 0) mine theirs; nonce_b = cond (eqb r 0) theirs mine })

unfoldable pub carrying : (identifier own peer : List ℕ) → Option Data → Option Data → Option Terms
carrying identifier own peer none theirs = none
carrying identifier own peer (some mine) none = none
carrying identifier own peer (some mine) (some theirs) = keyed_by (nonce_in own mine) (nonce_in peer theirs) (original_role identifier (half_in own mine) (half_in peer theirs))

-- by this end's own option and the other side's
unfoldable pub terms_by : (t : ℕ) (identifier own peer : List ℕ) → Option Terms
terms_by t identifier own peer = carrying identifier own peer (resumption_data t own) (resumption_data t peer)

-- by the transcript: this end's own option is host A's where its role is 0
unfoldable pub terms : (role t : ℕ) (identifier transcript : List ℕ) → Option Terms
terms role t identifier transcript =
    cond (eqb role 0)
    (terms_by t identifier (option_of_a transcript) (option_of_b transcript))
    (terms_by t identifier (option_of_b transcript) (option_of_a transcript))
