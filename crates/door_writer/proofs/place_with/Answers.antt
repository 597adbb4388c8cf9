-- `door_writer::place_with` meets its contract.
use mathlib.Core.Path.{◌≡◌, refl}
use lib.ListN.{length, replicate}
use Rattle.unit_bytes.specs.Layout.{door_size, numbers_size}
use Rattle.unit_bytes.proofs.Laws.{place_pieces}
use borrow.Author.Rules.{rules}
use Rattle.door_writer.proofs.place_with.Goals as goal

pub returns : goal.returns
returns c =
    let a = c.args in
    let numbers : length a.numbers ≡ numbers_size = search rules in
    let own : length a.own ≡ 40 = search rules in
    let peer : length a.peer ≡ 40 = search rules in
    let identifier : length a.identifier ≡ 18 = search rules in
    let secret : length a.secret ≡ 32 = search rules in
    let bytes = place_pieces (replicate door_size 0) a.numbers a.own a.peer a.identifier a.secret _ _ _ _ _ refl numbers own peer identifier secret
    c.copy.ensures c.copy-2.ensures c.copy-3.ensures c.copy-4.ensures c.copy-5.ensures in
    (bytes, own, peer, identifier, secret)
