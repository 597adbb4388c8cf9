-- What the steps of a generation record give back, in plain numbers.
use Rattle.std.specs.Prelude.{ℕ}
use Rattle.generation.specs.Steps.{Reply, refused, sent, received, Outcome}
use Rattle.generation.specs.declared.GenerationRecord.{GenerationRecord}
use Rattle.host_reply.specs.Numbers.{flag_number}
use Rattle.host_generation_numbers.specs.declared.GenerationNumbers.{GenerationNumbers}

abbrev pub refused_step : ℕ → GenerationRecord → GenerationNumbers
refused_step n g = record { next = g; number = n; kind = 0; rekey = 0 }

unfoldable pub step_numbers : Reply → GenerationRecord → GenerationNumbers
step_numbers (refused n) g = refused_step n g
step_numbers (sent generation rekey) g = record { next = g; number = generation; kind = 15; rekey = flag_number rekey }
step_numbers (received generation) g = record { next = g; number = generation; kind = 16; rekey = 0 }

-- the reply, and the record afterwards
unfoldable pub generation_numbers : Outcome → GenerationNumbers
generation_numbers o = step_numbers o.reply o.next
