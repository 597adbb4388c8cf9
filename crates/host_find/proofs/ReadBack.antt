-- The plain numbers lose nothing: the finder's word is read back from them.
use Rattle.std.specs.Prelude.{ℕ, zero, suc, ◌≡◌, refl}
use Rattle.std.proofs.Common.{sym, ◌∙◌, ap}
use Rattle.eno.specs.Area.{Status, says_found, says_none, says_unreadable, says_refused}
use Rattle.host_find.specs.Replies.{status_numbers}
use Rattle.host_reply.specs.declared.ReplyNumbers.{ReplyNumbers}

abbrev word_as : (kind : ℕ) → ReplyNumbers → Status
word_as zero r = says_refused r.number
word_as (suc zero) r = says_none
word_as (suc (suc zero)) r = says_none
word_as (suc (suc (suc zero))) r = says_none
word_as (suc (suc (suc (suc zero)))) r = says_none
word_as (suc (suc (suc (suc (suc zero))))) r = says_none
word_as (suc (suc (suc (suc (suc (suc zero)))))) r = says_none
word_as (suc (suc (suc (suc (suc (suc (suc zero))))))) r = says_found
word_as (suc (suc (suc (suc (suc (suc (suc (suc zero)))))))) r = says_none
word_as (suc (suc (suc (suc (suc (suc (suc (suc (suc k))))))))) r = says_unreadable (record { place = r.place; kind = r.option })

abbrev word_back : ReplyNumbers → Status
word_back r = word_as r.kind r

word_back_lem : (x : Status) → word_back (status_numbers x) ≡ x
unfolding status_numbers
word_back_lem says_found = refl
word_back_lem says_none = refl
word_back_lem (says_unreadable f) = refl
word_back_lem (says_refused n) = refl

pub status_tells : (x y : Status) → status_numbers x ≡ status_numbers y → x ≡ y
status_tells x y e = sym (word_back_lem x) ∙ (ap word_back e ∙ word_back_lem y)
