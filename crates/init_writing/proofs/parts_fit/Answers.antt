-- `init_writing::parts_fit` meets its contract. TEP, nonce and key are tested in turn.
use Rattle.std.proofs.Common.{◌∙◌, ap, rules}
use Rattle.init_writing.proofs.Fitting.{key_decides, not_both}
use Rattle.init_writing.proofs.parts_fit.Goals as goal

pub returns-then-nonce-eq-NONCE : goal.returns-then-nonce-eq-NONCE
returns-then-nonce-eq-NONCE c = let h = c.if-nonce-eq-NONCE.true in key_decides _ _ _ _ c.key_length_of-long.ensures h.0 h.1

pub returns-else-nonce-eq-NONCE : goal.returns-else-nonce-eq-NONCE
returns-else-nonce-eq-NONCE c = let f = not_both c.args.tep c.args.nonce.now c.args.key.now _ c.key_length_of-long.ensures c.if-nonce-eq-NONCE.either in search (rules, f)
