-- Which choice comes first, and that plain TCP has the reason 6 where there is none.
use Rattle.std.specs.Prelude.{ℕ, ◌≡◌, List, Option, Some, None, Result, Ok, Err}
use Rattle.std.specs.Option.{ok_or}
use Rattle.std.proofs.Common.{◌∙◌, ap, ap₂}
use Rattle.eno.specs.Cause.{numbered}
use Rattle.eno.specs.declared.Cause.{Cause}
use Rattle.eno.specs.declared.SessionRecord.{SessionRecord}
use Rattle.suboptions.specs.declared.Entry.{Entry}
use Rattle.tep_choice.specs.Choosing.{decision_of, chosen_or_none, last_resumed, last_fresh, first_or, chosen_by}
use Rattle.tep_choice.specs.declared.Chosen.{Chosen}

module _ (o : List ℕ) (es : List Entry) (list : List ℕ) (held : List SessionRecord) where
  pub chosen_resumed : (x : Chosen) → chosen_or_none (Some x) ≡ last_resumed o es list held → decision_of (Ok x) ≡ chosen_by o es list held
  unfolding chosen_by first_or
  chosen_resumed x p = ap (λ r. first_or r (last_fresh es list held)) p

  pub chosen_fresh : (b : Option Chosen) (n : Cause) (d : Result Chosen Cause)
      → chosen_or_none None ≡ last_resumed o es list held → chosen_or_none b ≡ last_fresh es list held → n ≡ numbered 6 → d ≡ ok_or b n → decision_of d ≡ chosen_by o es list held
  unfolding chosen_by first_or
  chosen_fresh (Some y) n d p q f g = ap decision_of g ∙ ap₂ first_or p q
  chosen_fresh None n d p q f g = ap decision_of g ∙ (ap (λ c. decision_of (Err c)) f ∙ ap₂ first_or p q)
