-- The answers of the finder, in the terms of the definitions.
use Rattle.std.specs.Prelude.{◌≡◌, refl}
use Rattle.std.proofs.Common.{sym, ◌∙◌, ap}
use Rattle.eno.specs.Area.{Status, says_found, says_none, says_unreadable, says_refused}
use Rattle.finder.specs.declared.FindStatus.{FindStatus}
use Rattle.finder.specs.declared.FindStatus.TheVariants as says
use Rattle.finder.specs.Answers.{status_of}

-- the answer with a word
abbrev word_of : Status → FindStatus
word_of says_found = says.Found
word_of says_none = says.Nothing
word_of (says_unreadable f) = says.Unreadable f.place f.kind
word_of (says_refused n) = says.Refused

word_back_lem : (a : FindStatus) → word_of (status_of a) ≡ a
word_back_lem says.Found = refl
word_back_lem says.Nothing = refl
word_back_lem (says.Unreadable i k) = refl
word_back_lem says.Refused = refl

-- the view loses nothing: two answers with the same word are the same
pub status_tells : (a b : FindStatus) → status_of a ≡ status_of b → a ≡ b
status_tells a b e = sym (word_back_lem a) ∙ (ap word_of e ∙ word_back_lem b)
