-- What is concluded, as the code comes to it, and that it is the judgement of what was negotiated. Assumes nothing.
use Prim.Native.Nat.{ℕ, ◌+◌, ◌≤◌}
use mathlib.Core.Path.{◌≡◌, refl, sym, ◌∙◌, ap, ap₂}
use mathlib.Core.List.{List, ◌++◌}
use mathlib.Core.Bool.{Bool}
use mathlib.Core.Option.{Option, none, some}
use lib.Dec.{eqb}
use lib.ListN.{length, replicate, length-append}
use Rattle.eno.specs.Suboption.{Sent, name, teps}
use Rattle.eno.specs.Judge.{Way, fresh, resumed, way_if, is_resumed, of_a, of_b, Sides, Negotiated, negotiated_by, agreed, encrypt}
use Rattle.eno.specs.declared.SessionRecord.{SessionRecord}
use Rattle.judgement.specs.Answers.{encrypted_as, padded, without_transcript, Judges}
use Rattle.judgement.specs.Laws.Transcript.{both_written}
use Rattle.judgement.specs.Laws.Found.{sides_of}
use Rattle.judgement.specs.declared.Reason.TheVariants as reason
use Rattle.judgement.specs.declared.Verdict.TheVariants as verdict
use Rattle.judgement.specs.declared.Judgement.{Judgement}
use Rattle.suboption_list.specs.List.{sent_of, items_in, list_of}
use Rattle.suboption_list.specs.declared.SuboptionItem.{SuboptionItem}
use Rattle.std.specs.Prelude as code
use Rattle.eno.specs.declared.Way as declared
use Rattle.eno.specs.Way.{way_as}
use Rattle.plain_validity.specs.Validity.{validity_in}
use Rattle.plain_striking.specs.Striking.{struck, last_of, taken}
use Rattle.plain_judge.specs.Plain.{concluded, negotiated_in}

module _ (a b : List ℕ) (role : ℕ) where
  pub concluded_none : (o : Option Negotiated) → o ≡ none → without_transcript (verdict.Plain reason.NoValidTep) ≡ concluded a b role o
  unfolding concluded
  concluded_none o e = rw e refl

  pub concluded_some : (n : Negotiated) → encrypted_as a b role n.byte (is_resumed n.way) ≡ concluded a b role (some n)
  unfolding concluded
  concluded_some n = refl

-- the whole of what `negotiate` computes
module _ (own peer : List ℕ) (hand : Option SessionRecord) (role : ℕ) (mine theirs : List Sent) where
  abbrev own_is_b : Bool
  own_is_b = eqb role 1

  abbrev valid : ℕ → Option Way
  valid = validity_in (sides_of hand own peer own_is_b) mine theirs

  abbrev left_of : List ℕ → List Sent
  left_of b = struck valid (teps (items_in (list_of b)))

  pub negotiated_none : (b : List ℕ) → b ≡ of_b own_is_b own peer → last_of (left_of b) ≡ none → (r : Judgement) → r ≡ without_transcript (verdict.Plain reason.NoValidTep)
      → r ≡ negotiated_in own peer hand role mine theirs
  unfolding negotiated_in taken
  negotiated_none b eb e r w = w ∙ concluded_none (of_a own_is_b own peer) (of_b own_is_b own peer) role _ (ap (taken valid) (ap (λ z. last_of (left_of z)) (sym eb) ∙ e))

  pub negotiated_some : (a b : List ℕ) → a ≡ of_a own_is_b own peer → b ≡ of_b own_is_b own peer → (x : SuboptionItem) → last_of (left_of b) ≡ some (sent_of x)
      → (v : code.Option declared.Way) → way_as v ≡ valid (name (sent_of x)) → (r : Judgement) → r ≡ concluded a b role (negotiated_by (sent_of x) (way_as v))
      → r ≡ negotiated_in own peer hand role mine theirs
  unfolding negotiated_in taken
  negotiated_some a b ea eb x e v is r w =
      w
      ∙ (ap (λ o. concluded a b role o) (ap (negotiated_by (sent_of x)) is ∙ ap (taken valid) (sym (ap (λ z. last_of (left_of z)) (sym eb) ∙ e)))
      ∙ ap₂ (λ y z. concluded y z role (taken valid (last_of (left_of (of_b own_is_b own peer))))) ea eb)

-- it says what was agreed
pub says_agreed : (role : ℕ) (s : Sides) (o : Option Negotiated) → Judges (agreed role s o) (concluded (of_a s.own_is_b s.own s.peer) (of_b s.own_is_b s.own s.peer) role o)
unfolding agreed concluded encrypted_as without_transcript padded
says_agreed role s none = record { told = refl; counted = refl; filled = refl }
says_agreed role s (some n) =
    let a = of_a s.own_is_b s.own s.peer in
    let b = of_b s.own_is_b s.own s.peer in
    record {
      told = ap (λ w. encrypt role n.byte w (a ++ b)) (way_again n.way);
      counted = sym (length-append a b);
      filled = refl;
    }
  where
    way_again : (w : Way) → way_if (is_resumed w) ≡ w
    way_again fresh = refl
    way_again resumed = refl
