-- The plain numbers of the calls on Init messages lose nothing: what was said is read back from them.
use Rattle.std.specs.Prelude.{ℕ, ◌≡◌, refl, List, cond, eqb}
use Rattle.std.proofs.Common.{sym, ◌∙◌, ap}
use Rattle.eno.specs.Option.{Writing, wrote}
use Rattle.eno.specs.Option as o
use Rattle.init_layout.specs.Reading.{Says, took, refused_with, Reading, reading_as}
use Rattle.host_init_numbers.specs.Replies.{writing_numbers, says_numbers, init_numbers}
use Rattle.host_reply.specs.declared.ReplyNumbers.{ReplyNumbers}
use Rattle.host_init_numbers.specs.declared.InitNumbers.{InitNumbers}

abbrev writing_back : ReplyNumbers → Writing
writing_back r = cond (eqb r.kind 1) (wrote r.number) (o.refused_with r.number)

writing_back_lem : (x : Writing) → writing_back (writing_numbers x) ≡ x
unfolding writing_numbers
writing_back_lem (wrote n) = refl
writing_back_lem (o.refused_with n) = refl

pub writing_numbers_tell : (x y : Writing) → writing_numbers x ≡ writing_numbers y → x ≡ y
writing_numbers_tell x y e = sym (writing_back_lem x) ∙ (ap writing_back e ∙ writing_back_lem y)

abbrev init_back : InitNumbers → Reading
init_back r = reading_as (cond (eqb r.kind 10) (took r.cipher r.count r.number) (refused_with r.number)) r.nonce r.key

says_back : (x : Says) (nonce key : List ℕ) → init_back (says_numbers x nonce key) ≡ reading_as x nonce key
unfolding says_numbers
says_back (took cipher count n) nonce key = refl
says_back (refused_with n) nonce key = refl

init_back_lem : (x : Reading) → init_back (init_numbers x) ≡ x
unfolding init_numbers
init_back_lem x = says_back x.says x.nonce x.key

pub init_numbers_tell : (x y : Reading) → init_numbers x ≡ init_numbers y → x ≡ y
init_numbers_tell x y e = sym (init_back_lem x) ∙ (ap init_back e ∙ init_back_lem y)
