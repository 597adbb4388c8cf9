-- `host_pieces::door_link_feed` meets its contract.
use Rattle.host_pieces_numbers.specs.Giving.{gives_fed}
use Rattle.host_pieces.proofs.door_link_feed.Goals as goal

pub returns : goal.returns
returns c = gives_fed _ c.feed-told.result _ _ _ c.fed_numbers.ensures c.feed-told.ensures
