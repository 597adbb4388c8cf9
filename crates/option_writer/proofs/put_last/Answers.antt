-- `option_writer::put_last` meets its contract.
use native.Mathlib.Omega.{arith}
use borrow.Author.Rules.{rules}
use borrow.Author.Tests.{not-true, not-false}
use Rattle.option_layout.specs.LastLaws.{has_room_for_v, puts_no_last, last_room, puts_last}
use Rattle.option_writer.proofs.put_last.Goals as goal

-- a record is in hand and its half is nine bytes, so there is room for all

pub returns-then-not-hand : goal.returns-then-not-hand
returns-then-not-hand c = puts_no_last _ (not-true _ c.if-not-hand.true) _ _ _

pub overflow_add-session : goal.overflow_add-session
overflow_add-session c =
    omega (arith, has_room_for_v c.args.hand (not-false _ c.if-not-hand.false) c.requires.tep)

pub overflow_add-at : goal.overflow_add-at
overflow_add-at c = omega (
  arith,
  (let a = c.args in
      last_room a.hand ((not-false _ c.if-not-hand.false)) a.nonce.now c.sent_half-half.result c.sent_half-half.ensures a.s.now a.at ((search rules)) c.requires.room),
)

pub overflow_add-at-2 : goal.overflow_add-at-2
overflow_add-at-2 c = omega (
  arith,
  (let a = c.args in
      last_room a.hand ((not-false _ c.if-not-hand.false)) a.nonce.now c.sent_half-half.result c.sent_half-half.ensures a.s.now a.at ((search rules)) c.requires.room),
)

pub overflow_add-result : goal.overflow_add-result
overflow_add-result c = omega (
  arith,
  (let a = c.args in
      last_room a.hand ((not-false _ c.if-not-hand.false)) a.nonce.now c.sent_half-half.result c.sent_half-half.ensures a.s.now a.at ((search rules)) c.requires.room),
)

pub overflow_add-result-2 : goal.overflow_add-result-2
overflow_add-result-2 c = omega (
  arith,
  (let a = c.args in
      last_room a.hand ((not-false _ c.if-not-hand.false)) a.nonce.now c.sent_half-half.result c.sent_half-half.ensures a.s.now a.at ((search rules)) c.requires.room),
)

pub returns : goal.returns
returns c =
    puts_last c.args.hand (not-false _ c.if-not-hand.false) _ _ c.sent_half-half.ensures _ _ (search rules) c.requires.room
    _ _ _ c.put.ensures c.copy.ensures c.copy-2.ensures
