-- `hkdf::next_block` meets its contract.
use Rattle.std.proofs.Common.{sym, ◌∙◌, ap}
use Rattle.std.specs.Prelude.{is_ok}
use Rattle.hkdf.proofs.Blocks.{block_made, ok_bytes}
use Rattle.hkdf.proofs.next_block.Goals as goal

pub unwrap-requires : goal.unwrap-requires
unwrap-requires c =
    let a = c.args in
    ap is_ok (block_made a.prk.now a.last.now a.info.now a.counter.now _ c.requires.0 c.requires.1 c.mac_parts.ensures)

pub returns : goal.returns
returns c =
    let a = c.args in
    ok_bytes _ _ (sym c.unwrap.ensures ∙ block_made a.prk.now a.last.now a.info.now a.counter.now _ c.requires.0 c.requires.1 c.mac_parts.ensures)
