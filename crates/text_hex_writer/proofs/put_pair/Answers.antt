-- `put_pair` meets its contract.
use Rattle.std.proofs.Common.{◌∙◌, ap₂, [], ◌∷◌}
use Rattle.wire.specs.Bytes.{pasted}
use Rattle.text_hex_writer.proofs.put_pair.Goals as goal

pub returns : goal.returns
returns c = let a = c.args in c.copy.ensures ∙ ap₂ (λ x y. pasted a.out.now a.at (x ∷ (y ∷ []))) c.digit.ensures c.digit-2.ensures
