-- `init_reader::init2_read` meets its contract: each way out is one of the reading's cases.
use Rattle.std.proofs.Common.{sym, ◌∙◌, arith}
use Rattle.std.proofs.lemmas.Result.{err_from_is_err_and}
use Rattle.init_reader.proofs.Receiving.{read2_many, read2_unfit, read2_not_whole, read2_room, read2_uncommon, read2_taken}
use Rattle.init_reader.proofs.init2_read.Goals as goal
use Rattle.init_reader.proofs.init2_read.Goals.{then-own-gt-MOST-via-then-own-gt-MOST, then-own-gt-MOST-via-else-own-gt-MOST+then-size-eq0}

pub returns-then-own-gt-MOST : goal.returns-then-own-gt-MOST
returns-then-own-gt-MOST c =
    elim c.then-own-gt-MOST.branch [
      | then-own-gt-MOST-via-then-own-gt-MOST w ↦ read2_many _ _ _ (omega arith)
      | then-own-gt-MOST-via-else-own-gt-MOST+then-size-eq0 w ↦ read2_unfit _ _ _ (omega arith) _ c.keys_of-size.ensures.0 (omega arith)
    ]

pub returns-in_err-n : goal.returns-in_err-n
returns-in_err-n c =
    let p = err_from_is_err_and c.from_residual.result c.from_residual.ensures.1 in
    rw (p.1, p.2) (read2_not_whole _ c.args.own.now _ (omega arith) _ c.keys_of-size.ensures.0 c.if-size-eq0.false _ c.in_err-n.ensures)

pub returns-then-not-is_in : goal.returns-then-not-is_in
returns-then-not-is_in c = read2_uncommon _ _ _ (omega arith) _ c.keys_of-size.ensures.0 c.if-size-eq0.false _ c.in_ok-n.ensures _ c.read_u16-cipher.ensures (sym c.is_in.ensures ∙ c.if-not-is_in.true)

pub taken-requires : goal.taken-requires
taken-requires c = (read2_room _ c.args.own.now _ (omega arith) _ c.keys_of-size.ensures.0 c.if-size-eq0.false _ c.in_ok-n.ensures, c.keys_of-size.ensures.1)

pub returns : goal.returns
returns c =
    c.taken.ensures
    ∙ read2_taken _ _ _ (omega arith) _ c.keys_of-size.ensures.0 c.if-size-eq0.false _ c.in_ok-n.ensures _ c.read_u16-cipher.ensures (sym c.is_in.ensures ∙ c.if-not-is_in.false)
