-- `unit_bytes::row_of` meets its contract.
use mathlib.Core.Path.{◌∙◌, ap}
use Rattle.unit_bytes.specs.Content.{record_in, row_of}
use Rattle.unit_bytes.proofs.Laws.{record_read}
use Rattle.unit_bytes.proofs.row_of.Goals as goal

pub returns : goal.returns
unfolding row_of
returns c =
    let h = c.row_with.ensures in
    (h.0, ap record_in h.0 ∙ record_read c.args.session (record { identifier_size = h.1; secret_size = h.2 }))
