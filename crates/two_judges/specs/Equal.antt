-- Two judges who keep the promise of a judge say the same, to the last byte of the array.
use Rattle.std.specs.Prelude.{ℕ, ◌≡◌, List, Bool}
use Rattle.std.proofs.Math.Option.{Option}
use Rattle.eno.specs.Judge.{judge}
use Rattle.eno.specs.declared.SessionRecord.{SessionRecord}
use Rattle.judgement.specs.Answers.{Judges, judgement_tells}
use Rattle.judgement.specs.declared.Judgement.{Judgement}

pub equal_answers : (mandatory : Bool) (hand : Option SessionRecord) (own peer : List ℕ) (x y : Judgement) → Judges (judge mandatory hand own peer) x → Judges (judge mandatory hand own peer) y → x ≡ y
equal_answers mandatory hand own peer x y p q = judgement_tells (judge mandatory hand own peer) x y p q
