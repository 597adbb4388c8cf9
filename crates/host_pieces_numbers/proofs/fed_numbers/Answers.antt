-- `host_pieces_numbers::fed_numbers` meets its contract.
use Prim.Native.Nat.{ℕ}
use mathlib.Core.Path.{refl, ap}
use mathlib.Core.List.{[]}
use Rattle.pieces_layout.specs.Answers.{told_of}
use Rattle.pieces_layout.specs.declared.PieceSays.{PieceSays}
use Rattle.host_reply.specs.Telling.{told}
use Rattle.host_pieces_numbers.specs.Replies.{message_numbers, frame_numbers, fed_numbers}
use Rattle.host_pieces_numbers.specs.declared.FedNumbers.{FedNumbers}
use Rattle.host_pieces_numbers.proofs.fed_numbers.Goals as goal

abbrev view : (used : ℕ) → PieceSays → FedNumbers
view u x = fed_numbers u (told_of x [])

pub returns-in-Waiting : goal.returns-in-Waiting
unfolding fed_numbers
returns-in-Waiting c = told (view _) c.in-Waiting.is c.bare.ensures

pub returns-in-Init1 : goal.returns-in-Init1
unfolding fed_numbers
returns-in-Init1 c = told (view _) c.in-Init1.is (ap (message_numbers _ _ _ _) c.nonce_place-place.ensures)

pub returns-in-Init2 : goal.returns-in-Init2
unfolding fed_numbers
returns-in-Init2 c = told (view _) c.in-Init2.is (refl)

pub returns-in-Header : goal.returns-in-Header
unfolding fed_numbers
returns-in-Header c = told (view _) c.in-Header.is (ap (frame_numbers _ _ _ _) c.flag_number-flag.ensures)

pub returns-in-Body : goal.returns-in-Body
unfolding fed_numbers
returns-in-Body c = told (view _) c.in-Body.is c.bare-in-Body.ensures

pub returns-in-Unreadable : goal.returns-in-Unreadable
unfolding fed_numbers
returns-in-Unreadable c = told (view _) c.in-Unreadable.is c.bare-in-Unreadable.ensures

pub returns-in-NoCommonCipher : goal.returns-in-NoCommonCipher
unfolding fed_numbers
returns-in-NoCommonCipher c = told (view _) c.in-NoCommonCipher.is c.bare-in-NoCommonCipher.ensures

pub returns-in-NoFrame : goal.returns-in-NoFrame
unfolding fed_numbers
returns-in-NoFrame c = told (view _) c.in-NoFrame.is c.bare-in-NoFrame.ensures

pub returns-in-NoRoom : goal.returns-in-NoRoom
unfolding fed_numbers
returns-in-NoRoom c = told (view _) c.in-NoRoom.is c.bare-in-NoRoom.ensures
