-- Worked examples: streams as they arrive, each in one piece and byte by byte: what is told, where, and how it ends.
use Rattle.std.specs.Prelude.{ℕ, ◌+◌, ◌-◌, ◌≡◌, refl, List, [], ◌∷◌, ◌++◌, map}
use Rattle.wire.specs.Bytes.{bytes_from, same_bytes, pasted, part}
use Rattle.wire.specs.Number.{big_endian, number, number_after, number_at}
use Rattle.refusals.specs.Rows.{refusal}
use Rattle.eno.specs.Tep.{key_length}
use Rattle.eno.specs.Option.{is_listed}
use Rattle.init_layout.specs.Layout.{magic_of, most_length, cipher_bytes}
use Rattle.init_layout.specs.Reading.{agrees, length_at, count_at, ciphers_from, nonce_from, fields_end, standing, void_from, void_at, standing_of, ciphers_at, first_that, is_enabled, in_init1, zeros, refused_reading, padded, with_cipher, taken_from}
use Rattle.frame_layout.specs.Layout as frames
use Rattle.frame_layout.specs.Layout.{bit0, associated, next_offset, least_length, most_offset, no_frame}
use Rattle.frame_layout.specs.Outcome as outcomes
use Rattle.frame_layout.specs.Calls.{length_in, header_in, outcome}
use Rattle.pieces_layout.specs.Reader.{numbers_n, gathered_n, own_from, position_of, first_of, second_of, stage_of, state_of, enabled_in, bits_of, own_in, test_of, moved, become, stored, no_room}
use Rattle.pieces_layout.specs.Step.{stop, least_in, hopeless, headed, bodied, before_nonce, settles, message_end, finished, gathering, by_state, after_byte, go_on, fed_on, fed}
use Rattle.pieces_layout.specs.Starts.{is_unfit, no_room_for, fresh, unless, start}
use Rattle.pieces_layout.specs.Run.{drained, run}
use Rattle.pieces_layout.specs.Stream.{parsed_by}
use Rattle.pieces_layout.specs.Arrivals.{table}

-- each byte a piece
abbrev singly : List ℕ → List (List ℕ)
singly = map (λ b. b ∷ [])

pub worked_examples : map (λ x. parsed_by (run x.0 (x.1 ∷ []))) table ≡ map (λ x. x.2) table
unfolding bytes_from same_bytes pasted part big_endian number number_after number_at refusal key_length is_listed magic_of most_length cipher_bytes agrees length_at count_at ciphers_from nonce_from fields_end standing void_from void_at standing_of ciphers_at first_that is_enabled in_init1 zeros refused_reading padded with_cipher taken_from frames.most_length bit0 associated next_offset least_length most_offset no_frame outcomes.unless length_in header_in outcome numbers_n gathered_n own_from position_of first_of second_of stage_of state_of enabled_in bits_of own_in test_of moved become stored no_room stop least_in hopeless headed bodied before_nonce settles message_end finished gathering by_state after_byte go_on fed_on fed is_unfit no_room_for fresh unless start drained run parsed_by
worked_examples = refl

pub worked_examples_singly : map (λ x. parsed_by (run x.0 (singly x.1))) table ≡ map (λ x. x.2) table
unfolding bytes_from same_bytes pasted part big_endian number number_after number_at refusal key_length is_listed magic_of most_length cipher_bytes agrees length_at count_at ciphers_from nonce_from fields_end standing void_from void_at standing_of ciphers_at first_that is_enabled in_init1 zeros refused_reading padded with_cipher taken_from frames.most_length bit0 associated next_offset least_length most_offset no_frame outcomes.unless length_in header_in outcome numbers_n gathered_n own_from position_of first_of second_of stage_of state_of enabled_in bits_of own_in test_of moved become stored no_room stop least_in hopeless headed bodied before_nonce settles message_end finished gathering by_state after_byte go_on fed_on fed is_unfit no_room_for fresh unless start drained run parsed_by
worked_examples_singly = refl
