-- `judge_plainly` meets its contract.
use native.Mathlib.Omega.{arith}
use Rattle.eno.proofs.Laws.Found.{found_short}
use Rattle.judge_missed.specs.Laws.{judge_missed_own, judge_missed_peer}
use Rattle.plain_judge.proofs.Cases.{plain_ill_own, plain_ill_peer, plain_equal, plain_unaware, plain_negotiated}
use Rattle.plain_judge.proofs.judge_plainly.Goals as goal
use Rattle.plain_judge.proofs.judge_plainly.Goals.{then-own-eq0-via-then-own-eq0, then-own-eq0-via-else-own-eq0+then-peer-eq0, then-ours-via-then-ours, then-ours-via-else-ours+then-others}

pub returns-then-own-eq0 : goal.returns-then-own-eq0
returns-then-own-eq0 c = elim c.then-own-eq0.branch [
  | then-own-eq0-via-then-own-eq0 w ↦ judge_missed_own _ _ _ _ _ _ c.find_option-own.ensures.0 c.find_option-peer.ensures.0 (omega arith) _ c.not_found.ensures
  | then-own-eq0-via-else-own-eq0+then-peer-eq0 w ↦ judge_missed_peer _ _ _ _ _ _ c.find_option-own.ensures.0 c.find_option-peer.ensures.0 (omega arith) _ c.not_found.ensures
]

pub returns-then-ours : goal.returns-then-ours
returns-then-ours c = elim c.then-ours.branch [
  | then-ours-via-then-ours w ↦ plain_ill_own _ _ _ _ _ _ c.find_option-own.ensures.0 c.find_option-peer.ensures.0 (omega arith) (omega arith) _ _ c.list-ours.ensures c.list-others.ensures w.if-ours.true _ c.without_transcript.ensures
  | then-ours-via-else-ours+then-others w ↦ plain_ill_peer _ _ _ _ _ _ c.find_option-own.ensures.0 c.find_option-peer.ensures.0 (omega arith) (omega arith) _ _ c.list-ours.ensures c.list-others.ensures w.if-ours.false w.if-others.true _ c.without_transcript.ensures
]

pub returns-then-role-other_global : goal.returns-then-role-other_global
returns-then-role-other_global c = plain_equal _ _ _ _ _ _ c.find_option-own.ensures.0 c.find_option-peer.ensures.0 (omega arith) (omega arith) _ _ c.list-ours.ensures c.list-others.ensures c.if-ours.false c.if-others.false _ _ c.first_global-our_global.ensures c.first_global-other_global.ensures (omega arith) _ c.without_transcript-then-role-other_global.ensures

pub returns-then-is_unaware : goal.returns-then-is_unaware
returns-then-is_unaware c = plain_unaware _ _ _ _ _ _ c.find_option-own.ensures.0 c.find_option-peer.ensures.0 (omega arith) (omega arith) _ _ c.list-ours.ensures c.list-others.ensures c.if-ours.false c.if-others.false _ _ c.first_global-our_global.ensures c.first_global-other_global.ensures (omega arith) _ c.is_unaware.ensures c.if-is_unaware.true _ c.without_transcript-then-is_unaware.ensures

pub negotiate-requires : goal.negotiate-requires
negotiate-requires c = (found_short _ _ _ c.find_option-own.ensures.0, found_short _ _ _ c.find_option-peer.ensures.0)

pub returns : goal.returns
returns c = plain_negotiated _ _ _ _ _ _ c.find_option-own.ensures.0 c.find_option-peer.ensures.0 (omega arith) (omega arith) _ _ c.list-ours.ensures c.list-others.ensures c.if-ours.false c.if-others.false _ _ c.first_global-our_global.ensures c.first_global-other_global.ensures (omega arith) _ c.is_unaware.ensures c.if-is_unaware.false _ c.negotiate.ensures
