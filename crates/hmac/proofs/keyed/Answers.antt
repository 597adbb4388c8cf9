-- `hmac::keyed` meets its contract.
use Rattle.std.proofs.Common.{rules}
use Rattle.std.proofs.lemmas.Result.{err_from_is_err_and}
use Rattle.hmac.proofs.Macs.{keyed_long, keyed_made}
use Rattle.hmac.proofs.keyed.Goals as goal

pub returns-in_err-inner : goal.returns-in_err-inner
returns-in_err-inner c =
    let p = err_from_is_err_and c.from_residual.result c.from_residual.ensures.1 in rw p.1 (keyed_long _ _ _ _ (search rules) c.xored-pad.ensures c.hash_parts.ensures _ c.in_err-inner.was)

pub returns : goal.returns
returns c =
    keyed_made _ _ _ _ (search rules) c.xored-pad.ensures c.hash_parts.ensures _ _ _ c.in_ok-inner.was c.xored-pad-2.ensures c.hash_parts-2.ensures
