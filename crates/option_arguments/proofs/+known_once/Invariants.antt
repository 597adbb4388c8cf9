-- `option_arguments::known_once` meets its contract: each call is at a shorter list.
use lib.ListN.{length}
use Rattle.option_arguments.proofs.+known_once.Given as goal

abbrev pub decreases-known_once : goal.decreases-known_once
decreases-known_once l = length l.list.now
