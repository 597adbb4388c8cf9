-- What confirms a connection: a receive opens a door with a verdict on its SYN, with the same option again, or with an ENO option in a non-SYN.
use Rattle.std.specs.Prelude.{◌≡◌, Bool, true, false, ◌⊎◌, List, [], ◌∷◌, ℕ}
use Rattle.std.proofs.Common.{sym, ap, ◌∙◌, true≢false}
use Rattle.std.proofs.Math.Option.{none}
use Rattle.std.proofs.lemmas.Bool.{not-false}
use Rattle.wire.specs.ByteLaws.{same_eq}
use Rattle.eno.specs.Walk.{Reading, readable, faulty}
use Rattle.eno.specs.Area.{Placed, Fault, enos, choose, chosen, options, finding, syn_option}
use Rattle.eno.specs.Judge.{is_unreadable, is_missing, too_long}
use Rattle.door.specs.Door.{peer_option}
use Rattle.door.specs.Receive.{second_reason, presence_reason}
use Rattle.door.proofs.Laws.Judged.{none_holds}
use Rattle.door.specs.declared.Door.{Door}
use Rattle.unit.specs.Confirmed.{Found}

listed_found : (s : List ℕ) (syn : Bool) (l : List Placed) → finding s syn ≡ choose syn l → is_missing (choose syn l) ≡ false → Found s syn
unfolding choose
listed_found s syn [] e m = absurd (true≢false m)
listed_found s syn (o ∷ []) e m = record { start = o.start; len = o.len; found_is = e }
listed_found s true (o ∷ p ∷ l) e m = absurd (true≢false m)
listed_found s false (o ∷ p ∷ l) e m = record { start = o.start; len = o.len; found_is = e }

read_found : (s : List ℕ) (syn : Bool) (r : Reading Fault Placed) → finding s syn ≡ chosen syn r → is_unreadable (chosen syn r) ≡ false → is_missing (chosen syn r) ≡ false → Found s syn
unfolding chosen
read_found s syn (faulty f) e u m = absurd (true≢false u)
read_found s syn (readable l) e u m = listed_found s syn (enos l) e m

as_chosen : (s : List ℕ) (syn : Bool) → too_long s ≡ false → finding s syn ≡ chosen syn (options s)
unfolding finding
as_chosen s syn fits = rw fits

there : (s : List ℕ) (syn : Bool) → too_long s ≡ false → is_unreadable (finding s syn) ≡ false → is_missing (finding s syn) ≡ false → Found s syn
there s syn fits u m = read_found s syn (options s) (as_chosen s syn fits) (sym (ap is_unreadable (as_chosen s syn fits)) ∙ u) (sym (ap is_missing (as_chosen s syn fits)) ∙ m)

-- no reason against a second SYN: the same option; none against a non-SYN: an option is found
pub second_same : (e : Door) (area : List ℕ) → second_reason e area ≡ none → syn_option area ≡ peer_option e
unfolding second_reason
second_same e area n =
    let x = none_holds _ _ _ n in
    let y = none_holds _ _ _ x.1 in
    let z = none_holds _ _ _ y.1 in
    same_eq (syn_option area) (peer_option e) (not-false _ (none_holds _ _ _ z.1).0)

pub presence_found : (area : List ℕ) → too_long area ≡ false → presence_reason area ≡ none → Found area false
unfolding presence_reason
presence_found area fits n =
    let x = none_holds _ _ _ n in
    there area false fits x.0 (none_holds _ _ _ x.1).0
