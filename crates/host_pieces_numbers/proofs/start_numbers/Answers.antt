-- `host_pieces_numbers::start_numbers` meets its contract.
use Rattle.pieces_layout.specs.Answers.{start_number}
use Rattle.host_reply.specs.Telling.{told}
use Rattle.host_pieces_numbers.specs.Replies.{start_numbers}
use Rattle.host_pieces_numbers.proofs.start_numbers.Goals as goal

pub returns-in-Started : goal.returns-in-Started
unfolding start_numbers
returns-in-Started c = told (λ x. start_numbers (start_number x)) c.in-Started.is c.of_kind.ensures

pub returns-in-Unfit : goal.returns-in-Unfit
unfolding start_numbers
returns-in-Unfit c = told (λ x. start_numbers (start_number x)) c.in-Unfit.is c.of_kind-in-Unfit.ensures

pub returns-in-NoRoom : goal.returns-in-NoRoom
unfolding start_numbers
returns-in-NoRoom c = told (λ x. start_numbers (start_number x)) c.in-NoRoom.is c.of_kind-in-NoRoom.ensures
