-- `key_terms::data_at` meets its contract.
use mathlib.Core.Path.{refl}
use native.Mathlib.Omega.{arith}
use Rattle.key_terms.proofs.Sending.{data_not_whole, data_ill_formed, data_not_once, data_fresh, data_bad, data_there}
use Rattle.key_terms.proofs.data_at.Goals as goal

pub returns-then-not-is_whole : goal.returns-then-not-is_whole
returns-then-not-is_whole c = data_not_whole _ _ _ c.is_whole.ensures (c.if-not-is_whole.true)

pub returns-then-summary : goal.returns-then-summary
returns-then-summary c = data_ill_formed _ _ _ c.is_whole.ensures (c.if-not-is_whole.false) _ c.summarize-summary.ensures c.if-summary.true

pub returns-then-entry-ne1 : goal.returns-then-entry-ne1
returns-then-entry-ne1 c = data_not_once _ _ _ c.is_whole.ensures (c.if-not-is_whole.false) _ c.summarize-summary.ensures c.if-summary.false (omega arith) (omega arith) _ c.wide-k.ensures _ refl (λ e. omega arith)

pub returns-then-is_fresh : goal.returns-then-is_fresh
returns-then-is_fresh c = data_fresh _ _ _ c.is_whole.ensures (c.if-not-is_whole.false) _ c.summarize-summary.ensures c.if-summary.false (omega arith) (omega arith) _ c.wide-k.ensures _ refl (omega arith) _ c.is_fresh.ensures c.if-is_fresh.true

pub returns-then-is_bad : goal.returns-then-is_bad
returns-then-is_bad c = data_bad _ _ _ c.is_whole.ensures (c.if-not-is_whole.false) _ c.summarize-summary.ensures c.if-summary.false (omega arith) (omega arith) _ c.wide-k.ensures _ refl (omega arith) _ c.is_fresh.ensures c.if-is_fresh.false _ c.is_bad.ensures c.if-is_bad.true

pub returns : goal.returns
returns c = data_there _ _ _ c.is_whole.ensures (c.if-not-is_whole.false) _ c.summarize-summary.ensures c.if-summary.false (omega arith) (omega arith) _ c.wide-k.ensures _ refl (omega arith) _ c.is_fresh.ensures c.if-is_fresh.false _ c.is_bad.ensures c.if-is_bad.false _ _ c.wide-start.ensures c.wide-len.ensures
