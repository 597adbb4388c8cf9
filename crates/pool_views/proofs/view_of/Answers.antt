-- `pool_views::view_of` meets its contract.
use borrow.Author.Rules.{rules}
use mathlib.Core.Path.{◌≡◌, ap, ◌∙◌}
use mathlib.Core.List.{List}
use Prim.Native.Nat.{◌<◌}
use native.Mathlib.Omega.{arith}
use lib.ListN.{replicate}
use Rattle.eno.specs.declared.SessionRecord.{SessionRecord}
use Rattle.door.specs.Numbers.{each_n}
use Rattle.unit.specs.Unit.{count_of}
use Rattle.unit_bytes.specs.Content.{rows_in}
use Rattle.pool.specs.Placed.{gathered}
use Rattle.pool.proofs.Gathering.{gathered_none, gathered_more, view_gathered}
use Rattle.pool_views.proofs.view_of.Goals as goal

pub loop-i-init : goal.loop-i-init
unfolding each_n
loop-i-init c =
    let a = c.args in
    ap (λ (s : SessionRecord). replicate each_n s) c.no_session-zeros.ensures ∙ gathered_none (rows_in a.rows.now) a.position.rows

pub bounds-position-i : goal.bounds-position-i
unfolding each_n
bounds-position-i c = omega (arith, c.count_of-n.ensures.0)

pub offset_bounds-held-i : goal.offset_bounds-held-i
unfolding each_n
offset_bounds-held-i c = let h : c.loop-i.i < each_n = omega (arith, c.count_of-n.ensures.0) in search rules

pub bounds-held-i : goal.bounds-held-i
unfolding each_n
bounds-held-i c = omega (arith, c.count_of-n.ensures.0)

pub loop-i-preserved : goal.loop-i-preserved
unfolding each_n
loop-i-preserved c =
    let l = c.loop-i in
    let a = c.args in
    let n = c.count_of-n in
    let within : l.i < each_n = omega (arith, n.ensures.0) in
    gathered_more (rows_in a.rows.now) a.position.rows l.i n.ensures.1 within l.held _ l.invariant c.record_at.ensures

pub returns : goal.returns
returns c =
    let l = c.loop-i in
    let a = c.args in
    let n = c.count_of-n in
    let e : l.i ≡ count_of a.position = omega (arith, n.ensures.0) in
    view_gathered a.rows.now a.position n.ensures.1 _ (ap (λ (held : List SessionRecord). record { door = a.position.door; count = a.position.count; held = held }) (l.invariant ∙ ap (gathered (rows_in a.rows.now) a.position.rows) e))
