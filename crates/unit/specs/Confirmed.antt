-- What confirms a connection: a receive opens a door with a verdict on its SYN, with the same option again, or with an ENO option in a non-SYN.
use Rattle.std.specs.Prelude.{◌≡◌, Bool, true, false, ◌⊎◌, List, ◌∷◌, ℕ}
use Rattle.std.proofs.Common.{◌∙◌}
use Rattle.eno.specs.Area.{found, finding, syn_option}
use Rattle.eno.specs.Session.{in_hand}
use Rattle.eno.specs.Judge.{Way, encrypt, judge}
use Rattle.door.specs.Door.{offering, crossed, answering, phase_of, own_option, peer_option}
use Rattle.door.specs.declared.Door.{Door}

-- a door e that is not Open is opened by a segment with these flags and this option area
pub data Confirmed (e : Door) (syn ack : Bool) (area : List ℕ) : Type 0 where
  -- Offered: the SYN with ACK itself is judged, and encryption is agreed
  by_verdict : phase_of e.phase ≡ offering → syn ≡ true → ack ≡ true → (role byte : ℕ) (way : Way) (transcript : List ℕ)
      → judge e.mandatory (in_hand e.hand) (own_option e) area ≡ encrypt role byte way transcript → Confirmed e syn ack area
  -- Crossed: a SYN with ACK brings the option of the first SYN again, byte for byte
  by_same_option : phase_of e.phase ≡ crossed → syn ≡ true → ack ≡ true → syn_option area ≡ peer_option e → Confirmed e syn ack area
  -- Crossed or Answered: an ENO option is found in a non-SYN with ACK
  by_presence : (phase_of e.phase ≡ crossed) ⊎ (phase_of e.phase ≡ answering) → syn ≡ false → ack ≡ true → (start len : ℕ) → finding area false ≡ found start len → Confirmed e syn ack area

-- an area that is not too long, not unreadable and not without an ENO option: one is found
pub record Found (s : List ℕ) (syn : Bool) : Type 0 where
  pub start : ℕ
  pub len : ℕ
  pub found_is : finding s syn ≡ found start len
