-- `hmac::mac_parts` meets its contract.
use Rattle.std.proofs.Common.{sym}
use Rattle.std.proofs.lemmas.Result.{err_from_is_err_and}
use Rattle.hmac.proofs.Macs.{mac_keyed, mac_refused}
use Rattle.hmac.proofs.mac_parts.Goals as goal

pub returns-in_err-k : goal.returns-in_err-k
returns-in_err-k c =
    let p = err_from_is_err_and c.from_residual.result c.from_residual.ensures.1 in rw p.1 (mac_refused _ _ _ (sym c.in_err-k.ensures.long))

pub returns : goal.returns
returns c =
    mac_keyed _ _ _ _ c.in_ok-k.ensures.made (sym c.in_ok-k.ensures.long) c.keyed.ensures
