-- Laws of a kept option: it is kept whole, and its bytes that count are read back.
use Rattle.std.specs.Prelude.{ℕ, ◌-◌, ◌≤◌, min, ◌≡◌, List, length, take, drop}
use Rattle.std.proofs.Common.{◌∙◌, ap, arith, le-leb, length-take}
use Rattle.door.specs.Door.{kept, own_option, peer_option}
use Rattle.door.specs.declared.Door.{Door}
use Rattle.door_data.specs.Kept.{kept_option}

-- an option of at most 40 bytes is kept whole
pub kept_whole : (o : List ℕ) → length o ≤ 40 → kept_option o ≡ kept o
unfolding kept_option
kept_whole o h = simp (le-leb _ _ h)

-- the bytes of a stored option that count
stored : (l n : ℕ) (s : List ℕ) → n ≡ min l 40 → take (n - 0) (drop 0 s) ≡ take (min l 40) s
stored l n s e = ap (λ k. take k s) (let q : n - 0 ≡ n = omega arith in q ∙ e)

pub own_stored : (d : Door) (n : ℕ) → n ≡ min d.own_length 40 → take (n - 0) (drop 0 d.own) ≡ own_option d
unfolding own_option
own_stored d n e = stored d.own_length n d.own e

pub peer_stored : (d : Door) (n : ℕ) → n ≡ min d.peer_length 40 → take (n - 0) (drop 0 d.peer) ≡ peer_option d
unfolding peer_option
peer_stored d n e = stored d.peer_length n d.peer e

-- the same, where they are taken from the start
pub own_taken : (d : Door) (n : ℕ) → n ≡ min d.own_length 40 → take n d.own ≡ own_option d
unfolding own_option
own_taken d n e = ap (λ k. take k d.own) e

pub peer_taken : (d : Door) (n : ℕ) → n ≡ min d.peer_length 40 → take n d.peer ≡ peer_option d
unfolding peer_option
peer_taken d n e = ap (λ k. take k d.peer) e

-- the bytes of a stored option are as many as count
pub own_long : (d : Door) (n : ℕ) → length d.own ≡ 40 → n ≡ min d.own_length 40 → length (own_option d) ≡ n
unfolding own_option
own_long d n l e = simp length-take (omega arith)

pub peer_long : (d : Door) (n : ℕ) → length d.peer ≡ 40 → n ≡ min d.peer_length 40 → length (peer_option d) ≡ n
unfolding peer_option
peer_long d n l e = simp length-take (omega arith)
