-- `init2_writer::init2_write` meets its contract: the fields, written one after another, are the message.
use Rattle.std.specs.Prelude.{[]}
use Rattle.std.proofs.Common.{sym, arith}
use Rattle.init_layout.specs.Layout.{magic_of}
use Rattle.init2_writer.proofs.Sending.{init2_parts, init2_small, init2_void, init2_no_room, init2_wrote}
use Rattle.init2_writer.proofs.init2_write.Goals as goal
use Rattle.init2_writer.proofs.init2_write.Goals.{then-not-parts_fit-via-then-not-parts_fit, then-not-parts_fit-via-else-not-parts_fit+then-cipher-eq-VOID}

pub returns-then-not-parts_fit : goal.returns-then-not-parts_fit
returns-then-not-parts_fit c =
    elim c.then-not-parts_fit.branch [
      | then-not-parts_fit-via-then-not-parts_fit w ↦ init2_parts _ _ _ _ _ (sym w.if-not-parts_fit.ensures)
      | then-not-parts_fit-via-else-not-parts_fit+then-cipher-eq-VOID w ↦ init2_void _ _ _ _ _ (sym w.if-not-parts_fit.ensures) (omega arith)
    ]

pub returns-then-out-whole : goal.returns-then-out-whole
returns-then-out-whole c = init2_no_room _ _ _ _ _ (sym c.if-not-parts_fit.ensures) (λ e. omega arith) (omega arith)

pub overflow_cast-length : goal.overflow_cast-length
overflow_cast-length c = let h = init2_small _ 0 _ _ [] (sym c.if-not-parts_fit.ensures) in omega arith

pub returns : goal.returns
unfolding magic_of
returns c =
    init2_wrote _ _ _ _ _ (sym c.if-not-parts_fit.ensures) (λ e. omega arith) (omega arith) _ _ _ _ _ c.copy.ensures c.write_u32.ensures c.write_u16.ensures c.copy-2.ensures c.copy-3.ensures
