-- `door_writer::bytes_of` meets its contract.
use mathlib.Core.Path.{◌≡◌, ◌∙◌, ap}
use lib.ListN.{length}
use Rattle.unit_bytes.specs.Layout.{door_size}
use Rattle.unit_bytes.specs.Content.{position_in}
use Rattle.unit_bytes.proofs.Laws.{written_place, position_read}
use borrow.Author.Rules.{rules}
use Rattle.door_writer.proofs.bytes_of.Goals as goal

pub returns : goal.returns
returns c =
    let o = c.args.old in
    let x = c.args.position in
    let h = c.place_with.ensures in
    let size : length x.rows ≡ 4 = search rules in
    let long : length o ≡ door_size = search rules in
    let bytes = h.0 ∙ written_place o x _ _ _ c.flag_over.ensures c.flag_over-2.ensures c.flag_over-3.ensures in
    (bytes, ap position_in bytes ∙ position_read o x (record { own_size = h.1; peer_size = h.2; hand_size = record { identifier_size = h.3; secret_size = h.4 }; rows_size = size }), long)
