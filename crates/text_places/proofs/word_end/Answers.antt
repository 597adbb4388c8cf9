-- `word_end` meets its contract: a word ends at the first space.
use Rattle.text_places.specs.Word.{word_end}
use Rattle.text_places.proofs.word_end.Goals as goal

pub returns : goal.returns
unfolding word_end
returns c = c.place_of.ensures
