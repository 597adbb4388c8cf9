-- `frame_header::put_three` meets its contract.
use Rattle.frame_layout.proofs.LayoutLaws.{three_put}
use Rattle.frame_header.proofs.put_three.Goals as goal

pub returns : goal.returns
returns c = three_put c.args.s.now _ _ c.requires _ _ c.copy.ensures c.write_u16.ensures
