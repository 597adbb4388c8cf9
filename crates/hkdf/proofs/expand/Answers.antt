-- `hkdf::expand` meets its contract.
use mathlib.Core.Path.{◌∙◌, sym}
use native.Mathlib.Omega.{arith}
use Rattle.hkdf.proofs.Told.{fits_of, expand_unfit, expand_no_room, expand_long, expand_written}
use Rattle.hkdf.proofs.expand.Goals as goal

pub returns-then-key-ne32 : goal.returns-then-key-ne32
returns-then-key-ne32 c = let a = c.args in expand_unfit a.key.now a.info.now a.size a.out.now c.if-key-ne32.true

pub returns-then-out-size : goal.returns-then-out-size
returns-then-out-size c = let a = c.args in expand_no_room a.key.now a.info.now a.size a.out.now (omega arith) (omega arith)

pub returns-then-too_long : goal.returns-then-too_long
returns-then-too_long c =
    let a = c.args in
    expand_long a.key.now a.info.now a.size a.out.now (omega arith) (omega arith) (sym c.too_long.ensures ∙ c.if-too_long.true)

pub write_expanded-requires : goal.write_expanded-requires
write_expanded-requires c =
    let a = c.args in
    fits_of a.key.now a.info.now a.size a.out.now (omega arith) (omega arith) (sym c.too_long.ensures ∙ c.if-too_long.false)

pub returns : goal.returns
returns c =
    let a = c.args in
    expand_written a.key.now a.info.now a.size a.out.now _ (omega arith) (omega arith) (sym c.too_long.ensures ∙ c.if-too_long.false) c.write_expanded.ensures
