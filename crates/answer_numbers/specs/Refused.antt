-- The number in each library's own view of its answers; 0 where nothing is refused.
use Rattle.std.specs.Prelude.{ℕ}
use Rattle.eno.specs.Area as area
use Rattle.eno.specs.Option as option
use Rattle.init_layout.specs.Reading as reading
use Rattle.frame_layout.specs.Outcome as frame
use Rattle.generation.specs.Steps as generation

abbrev pub in_status : area.Status → ℕ
in_status area.says_found = 0
in_status area.says_none = 0
in_status (area.says_unreadable f) = 0
in_status (area.says_refused n) = n

abbrev pub in_writing : option.Writing → ℕ
in_writing (option.wrote m) = 0
in_writing (option.refused_with n) = n

abbrev pub in_says : reading.Says → ℕ
in_says (reading.took cipher count m) = 0
in_says (reading.refused_with n) = n

abbrev pub in_frame : frame.Reply → ℕ
in_frame (frame.refused n) = n
in_frame (frame.begins offset) = 0
in_frame (frame.header rekey clen next) = 0
in_frame frame.made = 0
in_frame (frame.written m) = 0
in_frame (frame.plaintext fin urg urgent at) = 0

abbrev pub in_generation : generation.Reply → ℕ
in_generation (generation.refused n) = n
in_generation (generation.sent g rekey) = 0
in_generation (generation.received g) = 0
