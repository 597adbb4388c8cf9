-- `pieces_init::gather` meets its contract.
use Rattle.std.specs.Prelude.{◌≡◌, length}
use Rattle.std.proofs.Common.{◌∙◌, ap, arith}
use Rattle.pieces_steps.specs.Later.{waiting_of}
use Rattle.pieces_layout.specs.Reader.{moved}
use Rattle.pieces_init.specs.InitWays.{gathered_start, gathered_rest, gathered_stops, gathered_next, gathered_all}
use Rattle.pieces_init.proofs.gather.Goals as goal

pub loop-i-init : goal.loop-i-init
loop-i-init c = let a = c.args in gathered_start a.two a.tep a.numbers.now a.gathered.now a.piece.now _ c.requires.0 c.requires.1

pub rest-requires : goal.rest-requires
rest-requires c = (c.loop-i.invariant.reads, omega arith, omega arith)

pub returns-then-nonce-n : goal.returns-then-nonce-n
unfolding moved
returns-then-nonce-n c = let a = c.args in let l = c.loop-i in gathered_rest a.two a.tep a.numbers.now a.gathered.now a.piece.now l.numbers l.gathered l.n l.i l.invariant c.rest.result _ _ c.rest.ensures

pub returns-then-settled : goal.returns-then-settled
returns-then-settled c = let a = c.args in let l = c.loop-i in gathered_stops a.two a.tep a.numbers.now a.gathered.now a.piece.now l.numbers l.gathered l.n l.i l.invariant (omega arith) (omega arith) (omega arith) _ c.settled.ensures c.if-settled.true _ c.set_numbers.ensures

pub loop-i-preserved : goal.loop-i-preserved
loop-i-preserved c = let a = c.args in let l = c.loop-i in gathered_next a.two a.tep a.numbers.now a.gathered.now a.piece.now l.numbers l.gathered l.n l.i l.invariant (omega arith) (omega arith) (omega arith) _ c.settled.ensures c.if-settled.false

pub returns : goal.returns
returns c = let a = c.args in let l = c.loop-i in gathered_all a.two a.tep a.numbers.now a.gathered.now a.piece.now l.numbers l.gathered l.n l.i l.invariant (omega arith) c.waiting.result (let e : length a.piece.now ≡ l.i = omega arith in c.waiting.ensures ∙ ap waiting_of e)
