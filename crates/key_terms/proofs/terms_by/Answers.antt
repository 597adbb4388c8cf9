-- `key_terms::terms_by` meets its contract.
use mathlib.Core.Path.{refl, sym, ◌∙◌, ap}
use native.Mathlib.Omega.{arith}
use Rattle.std.specs.Prelude.{Some}
use Rattle.key_terms.proofs.Laws.{data_fits}
use Rattle.key_terms.specs.Answers.{data_as, role_as}
use Rattle.key_terms.proofs.Giving.{own_none, peer_none, gives_none, role_untold, gives_a, gives_b}
use Rattle.key_terms.proofs.terms_by.Goals as goal

pub returns-in_err-mine : goal.returns-in_err-mine
returns-in_err-mine c =
    rw c.from_residual.ensures (gives_none _ _ _ _ (own_none _ _ _ _ (sym (ap data_as c.in_err-mine.was) ∙ c.data_at.ensures)) _ refl)

pub returns-in_err-theirs : goal.returns-in_err-theirs
returns-in_err-theirs c =
    rw c.from_residual-in_err-theirs.ensures (gives_none _ _ _ _ (peer_none _ _ _ _ (sym (ap data_as c.in_err-theirs.was) ∙ c.data_at-2.ensures)) _ refl)

pub nonce_of-ours-requires : goal.nonce_of-ours-requires
nonce_of-ours-requires c = data_fits _ _ _ _ (sym (ap data_as c.in_ok-mine.was) ∙ c.data_at.ensures)

pub nonce_of-other-requires : goal.nonce_of-other-requires
nonce_of-other-requires c = data_fits _ _ _ _ (sym (ap data_as c.in_ok-theirs.was) ∙ c.data_at-2.ensures)

pub overflow_sub-n : goal.overflow_sub-n
overflow_sub-n c = let f = data_fits _ _ _ _ (sym (ap data_as c.in_ok-mine.was) ∙ c.data_at.ensures) in let g = f.nine in omega arith

pub overflow_sub-m : goal.overflow_sub-m
overflow_sub-m c = let f = data_fits _ _ _ _ (sym (ap data_as c.in_ok-theirs.was) ∙ c.data_at-2.ensures) in let g = f.nine in omega arith

pub returns-in_err-original_role : goal.returns-in_err-original_role
returns-in_err-original_role c =
    rw c.from_residual-in_err-original_role.ensures (gives_none _ _ _ _ (role_untold _ _ _ _ _ _ (sym (ap data_as c.in_ok-mine.was) ∙ c.data_at.ensures) _ _ (sym (ap data_as c.in_ok-theirs.was) ∙ c.data_at-2.ensures) (sym (ap role_as c.in_err-original_role.was) ∙ c.original_role.ensures)) _ refl)

pub returns-in-A : goal.returns-in-A
returns-in-A c = gives_a _ _ _ _ _ _ (sym (ap data_as c.in_ok-mine.was) ∙ c.data_at.ensures) _ _ (sym (ap data_as c.in_ok-theirs.was) ∙ c.data_at-2.ensures) _ _ c.nonce_of-ours.ensures c.nonce_of-other.ensures (sym (ap role_as (c.in_ok-original_role.was ∙ ap Some c.in-A.is)) ∙ c.original_role.ensures)

pub returns-in-B : goal.returns-in-B
returns-in-B c = gives_b _ _ _ _ _ _ (sym (ap data_as c.in_ok-mine.was) ∙ c.data_at.ensures) _ _ (sym (ap data_as c.in_ok-theirs.was) ∙ c.data_at-2.ensures) _ _ c.nonce_of-ours.ensures c.nonce_of-other.ensures (sym (ap role_as (c.in_ok-original_role.was ∙ ap Some c.in-B.is)) ∙ c.original_role.ensures)
