-- `door_search::first_sought` meets its contract.
use Rattle.std.specs.Prelude.{ℕ, ◌<◌, ◌≡◌, Bool, List, length, get_or, take}
use Rattle.std.proofs.Common.{sym, ◌∙◌, ap, arith, length-take, get_or-take}
use Rattle.door.specs.Record.{past_end}
use Rattle.door.specs.Door.{seen_of}
use Rattle.door.specs.declared.View.{View}
use Rattle.door_search.specs.declared.Sought.{Sought}
use Rattle.door_search.specs.Search.{is_sought}
use Rattle.door.proofs.Laws.First.{seen_at, first_here, first_later, first_nowhere}
use Rattle.door_search.proofs.first_sought.Goals as goal

-- the record at i of those that the view shows, once it was compared
compared : (s : Sought) (bytes : List ℕ) (v : View) (n i : ℕ) {r b : Bool} → n ≡ length (seen_of v).held → i < n → r ≡ is_sought s bytes (get_or (take n v.held) i past_end) → r ≡ b → is_sought s bytes (get_or (seen_of v).held i past_end) ≡ b
compared s bytes v n i en h er e = ap (is_sought s bytes) (seen_at v i (omega arith) ∙ sym (get_or-take n v.held i past_end h)) ∙ (sym er ∙ e)

pub loop-i-init : goal.loop-i-init
loop-i-init c = omega arith

pub returns-then-is_sought : goal.returns-then-is_sought
returns-then-is_sought c =
    let a = c.args in
    let n = c.held_count-n.ensures in
    let h : c.loop-i.i < c.held_count-n.result = omega (arith, c.loop-i-test.true, length-take c.held_count-n.result a.view.held) in
    first_here _ _ _ c.loop-i.invariant (omega (arith, n.seen)) (compared a.sought a.bytes.now a.view _ _ n.seen h c.is_sought.ensures c.if-is_sought.true)

pub loop-i-preserved : goal.loop-i-preserved
loop-i-preserved c =
    let a = c.args in
    let n = c.held_count-n.ensures in
    let h : c.loop-i.i < c.held_count-n.result = omega (arith, c.loop-i-test.true, length-take c.held_count-n.result a.view.held) in
    first_later _ _ _ c.loop-i.invariant (omega (arith, n.seen)) (compared a.sought a.bytes.now a.view _ _ n.seen h c.is_sought.ensures c.if-is_sought.false)

pub returns : goal.returns
returns c =
    let n = c.held_count-n.ensures in
    let v = c.args.view in
    omega (arith, n.seen, first_nowhere _ (seen_of v).held c.loop-i.i c.loop-i.invariant (omega (arith, n.seen, n.few, n.places, length-take c.held_count-n.result v.held)))
