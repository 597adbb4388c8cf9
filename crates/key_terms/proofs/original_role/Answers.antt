-- `key_terms::original_role` meets its contract.
use Rattle.key_terms.proofs.Halves.{role_equal, role_a, role_b, role_none}
use Rattle.key_terms.proofs.original_role.Goals as goal

pub returns-then-half_stands : goal.returns-then-half_stands
returns-then-half_stands c = role_equal _ _ _ _ c.half_stands.ensures c.if-half_stands.true

pub returns-then-halves_stand : goal.returns-then-halves_stand
returns-then-halves_stand c = role_a _ _ _ _ c.half_stands.ensures c.if-half_stands.false _ c.halves_stand.ensures c.if-halves_stand.true

pub returns-then-halves_stand-2 : goal.returns-then-halves_stand-2
returns-then-halves_stand-2 c = role_b _ _ _ _ c.half_stands.ensures c.if-half_stands.false _ c.halves_stand.ensures c.if-halves_stand.false _ c.halves_stand-2.ensures c.if-halves_stand-2.true

pub returns : goal.returns
returns c = role_none _ _ _ _ c.half_stands.ensures c.if-half_stands.false _ c.halves_stand.ensures c.if-halves_stand.false _ c.halves_stand-2.ensures c.if-halves_stand-2.false
