-- `unit_bytes::row_with` meets its contract.
use mathlib.Core.Path.{◌≡◌, refl}
use lib.ListN.{length, replicate}
use Rattle.unit_bytes.specs.Layout.{row_size}
use Rattle.unit_bytes.proofs.Laws.{row_pieces}
use borrow.Author.Rules.{rules}
use Rattle.unit_bytes.proofs.row_with.Goals as goal

pub returns : goal.returns
returns c =
    let a = c.args in
    let head : length a.head ≡ 2 = search rules in
    let identifier : length a.identifier ≡ 18 = search rules in
    let secret : length a.secret ≡ 32 = search rules in
    (row_pieces (replicate row_size 0) a.head a.identifier a.secret _ _ _ refl head identifier secret c.copy.ensures c.copy-2.ensures c.copy-3.ensures, identifier, secret)
