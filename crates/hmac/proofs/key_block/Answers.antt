-- `hmac::key_block` meets its contract.
use Rattle.std.proofs.Common.{◌∙◌, sym, arith}
use Rattle.std.proofs.lemmas.Result.{err_from_is_err_and}
use Rattle.hmac.proofs.Macs.{block_short, short_fits, digest_32, block_hashed, hashed_fits, key_long}
use Rattle.hmac.proofs.key_block.Goals as goal

pub returns-then-key-le64-clause-made : goal.returns-then-key-le64-clause-made
returns-then-key-le64-clause-made c = c.block_of.ensures ∙ block_short _ (omega arith)

pub returns-then-key-le64-clause-long : goal.returns-then-key-le64-clause-long
returns-then-key-le64-clause-long c = sym (short_fits _ (omega arith))

pub returns-in_err-digest-clause-long : goal.returns-in_err-digest-clause-long
returns-in_err-digest-clause-long c =
    let p = err_from_is_err_and c.from_residual.result c.from_residual.ensures.1 in rw p.1 (sym (key_long _ _ c.hash.ensures _ c.in_err-digest.was))

pub block_of-requires-2 : goal.block_of-requires-2
block_of-requires-2 c = let l = digest_32 _ _ c.hash.ensures _ c.in_ok-digest.was in omega arith

pub returns-clause-made : goal.returns-clause-made
returns-clause-made c = c.block_of-2.ensures ∙ block_hashed _ _ c.hash.ensures _ c.in_ok-digest.was (omega arith)

pub returns-clause-long : goal.returns-clause-long
returns-clause-long c = sym (hashed_fits _ _ c.hash.ensures _ c.in_ok-digest.was)
