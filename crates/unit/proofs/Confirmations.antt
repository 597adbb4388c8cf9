-- Demand 2, for lists of calls: what confirmed a connection, in the bytes of the segments that were received.
use Rattle.std.specs.Prelude.{◌≡◌, true, List, ℕ, ◌<◌}
use Rattle.std.proofs.Common.{sym, ap, ◌∙◌, ⊎_elim, true≢false}
use Rattle.std.proofs.Math.Option.{Option}
use Rattle.eno.specs.declared.SessionRecord.{SessionRecord}
use Rattle.door.specs.Door.{phase_of}
use Rattle.door.specs.declared.Door.{Door}
use Rattle.unit.specs.Numbers.{doors_n}
use Rattle.unit.specs.Run.{Call}
use Rattle.unit.specs.History.{door_after}
use Rattle.unit.specs.Confirmed.{Confirmed, by_verdict, by_same_option, by_presence}
use Rattle.unit.specs.Openings.{OpenedWith}
use Rattle.unit.specs.Connections.{Terms}
use Rattle.unit.specs.Stories.{is_waiting, Holding, Story, resting, sent, waiting, open_as, plain_as}
use Rattle.unit.proofs.Stories.{offered_phase, plain_phase, door_story}
use Rattle.unit.specs.Confirmations.{Confirmation, that_syn, same_again, in_non_syn}

-- a door in Crossed or Answered holds a verdict
holds : (d : ℕ) (cs : List Call) (e : Door) → is_waiting (phase_of e.phase) ≡ true → Story d cs e → (t : Terms) × Holding d cs e t
holds d cs e q (resting p) = absurd (true≢false (sym q ∙ ap is_waiting p))
holds d cs e q (sent xs b aware mandatory list resume nonce lent option hand w u y l f) =
    absurd (true≢false (sym q ∙ (ap (λ (x : Door). is_waiting (phase_of x.phase)) y ∙ ap is_waiting (offered_phase option mandatory hand))))
holds d cs e q (waiting t y p i) = (t, y)
holds d cs e q (open_as t y p i) = absurd (true≢false (sym q ∙ ap is_waiting p))
holds d cs e q (plain_as n y p) = absurd (true≢false (sym q ∙ (ap (λ (x : Door). is_waiting (phase_of x.phase)) p ∙ ap is_waiting (plain_phase n))))

-- the segment that opened a connection confirmed it
pub confirmed_by : (d : ℕ) → d < doors_n → (cs : List Call) (hand : Option SessionRecord) (w : OpenedWith d cs hand) → Confirmation d w.before w.syn w.ack w.area
confirmed_by d h cs hand w = go w.confirmed
  where
    go : Confirmed (door_after d w.before) w.syn w.ack w.area → Confirmation d w.before w.syn w.ack w.area
    go (by_verdict p s a role byte way t j) = that_syn p s a
    go (by_same_option p s a q) = let x = holds d w.before (door_after d w.before) (ap is_waiting p) (door_story d h w.before) in same_again x.0 x.1.by s a (q ∙ x.1.peer_is)
    go (by_presence p s a i n q) =
        let x = holds d w.before (door_after d w.before) (⊎_elim (λ z. ap is_waiting z) (λ z. ap is_waiting z) p) (door_story d h w.before) in
        in_non_syn x.0 x.1.by s a i n q
