-- `init1_writer::init1_write` meets its contract: the fields, written one after another, are the message.
use Rattle.std.specs.Prelude.{[]}
use Rattle.std.proofs.Common.{sym, arith}
use Rattle.init_layout.specs.Layout.{magic_of}
use Rattle.init1_writer.proofs.Sending.{init1_parts, init1_list, init1_few, init1_small, init1_no_room, init1_wrote}
use Rattle.init1_writer.proofs.init1_write.Goals as goal
use Rattle.init1_writer.proofs.init1_write.Goals.{then-not-parts_fit-via-then-not-parts_fit, then-not-parts_fit-via-else-not-parts_fit+then-not-ciphers_fit}

pub returns-then-not-parts_fit : goal.returns-then-not-parts_fit
returns-then-not-parts_fit c =
    elim c.then-not-parts_fit.branch [
      | then-not-parts_fit-via-then-not-parts_fit w ↦ init1_parts _ _ _ _ _ (sym w.if-not-parts_fit.ensures)
      | then-not-parts_fit-via-else-not-parts_fit+then-not-ciphers_fit w ↦ init1_list _ _ _ _ _ (sym w.if-not-parts_fit.ensures) (sym w.if-not-ciphers_fit.ensures)
    ]

pub overflow_mul-at : goal.overflow_mul-at
overflow_mul-at c = let h = init1_few 0 _ [] [] [] (sym c.if-not-ciphers_fit.ensures) in omega arith

pub overflow_add-at : goal.overflow_add-at
overflow_add-at c = let h = init1_few 0 _ [] [] [] (sym c.if-not-ciphers_fit.ensures) in omega arith

pub overflow_add-behind : goal.overflow_add-behind
overflow_add-behind c = let h = init1_few 0 _ [] [] [] (sym c.if-not-ciphers_fit.ensures) in omega arith

pub overflow_add-n : goal.overflow_add-n
overflow_add-n c = let h = init1_few 0 _ [] [] [] (sym c.if-not-ciphers_fit.ensures) in omega arith

pub returns-then-out-n : goal.returns-then-out-n
returns-then-out-n c = init1_no_room _ _ _ _ _ (sym c.if-not-parts_fit.ensures) (sym c.if-not-ciphers_fit.ensures) (omega arith)

pub overflow_cast-count : goal.overflow_cast-count
overflow_cast-count c = let h = init1_few 0 _ [] [] [] (sym c.if-not-ciphers_fit.ensures) in omega arith

pub returns : goal.returns
unfolding magic_of
returns c =
    init1_wrote _ _ _ _ _ (sym c.if-not-parts_fit.ensures) (sym c.if-not-ciphers_fit.ensures) (omega arith) _ _ _ _ _ _ c.copy.ensures c.write_u32.ensures c.copy-2.ensures c.put_ciphers.ensures c.copy-3.ensures c.copy-4.ensures

pub overflow_cast-length : goal.overflow_cast-length
overflow_cast-length c =
    let h = init1_small _ [] _ _ [] (sym c.if-not-parts_fit.ensures) in
    let k = init1_few 0 _ [] [] [] (sym c.if-not-ciphers_fit.ensures) in
    omega arith
