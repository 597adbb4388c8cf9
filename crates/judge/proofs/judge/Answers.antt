-- `judge` meets its contract.
use native.Mathlib.Omega.{arith}
use Rattle.eno.proofs.Laws.Found.{found_short}
use Rattle.judge_missed.specs.Laws.{judge_missed_own, judge_missed_peer}
use Rattle.judge_quick.specs.Laws.Cases.{judge_ill_own, judge_ill_peer, judge_equal, judge_unaware, judge_negotiated}
use Rattle.judge.proofs.judge.Goals as goal
use Rattle.judge.proofs.judge.Goals.{then-own-eq0-via-then-own-eq0, then-own-eq0-via-else-own-eq0+then-peer-eq0, then-s-via-then-s, then-s-via-else-s+then-p}

pub returns-then-own-eq0 : goal.returns-then-own-eq0
returns-then-own-eq0 c = elim c.then-own-eq0.branch [
  | then-own-eq0-via-then-own-eq0 w ↦ judge_missed_own _ _ _ _ _ _ c.find_option-own.ensures.0 c.find_option-peer.ensures.0 (omega arith) _ c.not_found.ensures
  | then-own-eq0-via-else-own-eq0+then-peer-eq0 w ↦ judge_missed_peer _ _ _ _ _ _ c.find_option-own.ensures.0 c.find_option-peer.ensures.0 (omega arith) _ c.not_found.ensures
]

pub returns-then-s : goal.returns-then-s
returns-then-s c = elim c.then-s.branch [
  | then-s-via-then-s w ↦ judge_ill_own _ _ _ _ _ _ c.find_option-own.ensures.0 c.find_option-peer.ensures.0 (omega arith) (omega arith) _ _ c.summarize-s.ensures c.summarize-p.ensures w.if-s.true _ c.without_transcript.ensures
  | then-s-via-else-s+then-p w ↦ judge_ill_peer _ _ _ _ _ _ c.find_option-own.ensures.0 c.find_option-peer.ensures.0 (omega arith) (omega arith) _ _ c.summarize-s.ensures c.summarize-p.ensures w.if-s.false w.if-p.true _ c.without_transcript.ensures
]

pub returns-then-s-p : goal.returns-then-s-p
returns-then-s-p c = judge_equal _ _ _ _ _ _ c.find_option-own.ensures.0 c.find_option-peer.ensures.0 (omega arith) (omega arith) _ _ c.summarize-s.ensures c.summarize-p.ensures c.if-s.false c.if-p.false (omega arith) _ c.without_transcript-then-s-p.ensures

pub returns-then-is_unaware : goal.returns-then-is_unaware
returns-then-is_unaware c = judge_unaware _ _ _ _ _ _ c.find_option-own.ensures.0 c.find_option-peer.ensures.0 (omega arith) (omega arith) _ _ c.summarize-s.ensures c.summarize-p.ensures c.if-s.false c.if-p.false (omega arith) _ c.is_unaware.ensures c.if-is_unaware.true _ c.without_transcript-then-is_unaware.ensures

pub negotiate-requires : goal.negotiate-requires
negotiate-requires c = (found_short _ _ _ c.find_option-own.ensures.0, found_short _ _ _ c.find_option-peer.ensures.0)

pub returns : goal.returns
returns c = judge_negotiated _ _ _ _ _ _ c.find_option-own.ensures.0 c.find_option-peer.ensures.0 (omega arith) (omega arith) _ _ c.summarize-s.ensures c.summarize-p.ensures c.if-s.false c.if-p.false (omega arith) _ c.is_unaware.ensures c.if-is_unaware.false _ c.negotiate.ensures
