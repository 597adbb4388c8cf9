-- `pieces_init::rest` meets its contract.
use Prim.Native.Nat.{◌+◌, ◌-◌}
use mathlib.Core.Path.{◌≡◌, refl, ◌∙◌, ap}
use native.Mathlib.Omega.{arith}
use lib.ListN.{length, take, drop, length-drop}
use lib.Seq.{take_all}
use Rattle.wire.specs.Bytes.{pasted}
use Rattle.pieces_layout.specs.Reader.{moved}
use Rattle.pieces_init.specs.RunLaws.{rest_past, rest_waits, rest_whole}
use Rattle.pieces_init.proofs.rest.Goals as goal

pub returns-then-end-n : goal.returns-then-end-n
unfolding moved
returns-then-end-n c = let a = c.args in rest_past a.two a.tep a.numbers.now a.gathered.now a.n a.piece.now a.i c.requires.0 c.requires.1 c.requires.2 _ c.end_of-end.ensures.0 (omega arith) c.finish.result _ _ _ c.store.ensures refl c.finish.ensures

pub returns-then-have-left : goal.returns-then-have-left
unfolding moved
returns-then-have-left c = let a = c.args in rest_waits a.two a.tep a.numbers.now a.gathered.now a.n a.piece.now a.i c.requires.0 c.requires.1 c.requires.2 _ c.end_of-end.ensures.0 (omega arith) (omega arith) c.waiting.result _ c.waiting.ensures (c.copy.ensures ∙ ap (pasted a.gathered.now a.n) (take_all (length a.piece.now - a.i) (drop a.i a.piece.now) (omega (arith, length-drop a.i a.piece.now))))

pub returns : goal.returns
unfolding moved
returns c = let a = c.args in let end = c.end_of-end.result in let q : a.i + (end - a.n) - a.i ≡ end - a.n = omega arith in rest_whole a.two a.tep a.numbers.now a.gathered.now a.n a.piece.now a.i c.requires.0 c.requires.1 c.requires.2 _ c.end_of-end.ensures.0 (omega arith) (omega arith) c.finish-2.result _ _ _ _ (c.copy-2.ensures ∙ ap (λ k. pasted a.gathered.now a.n (take k (drop a.i a.piece.now))) q) refl refl c.finish-2.ensures
