-- Runs of the unit, each from the empty one: one table, one claim about all rows. No unit whose answers are constant or invented passes it.
use Rattle.std.specs.Prelude.{◌-◌, ◌≡◌, refl, [], ◌∷◌, ◌++◌, map, Bool, get_or, take}
use Rattle.eno.specs.Cause.{first_cause}
use Rattle.wire.specs.Bytes.{part, pasted, same_bytes}
use Rattle.eno.specs.Walk.{items, items_of}
use Rattle.eno.specs.Area.{option_at, options, enos, choose, chosen, finding, part_of, syn_option}
use Rattle.eno.specs.Suboption.{suboption_at, suboptions, is_ill_formed, globals, global_byte, role_bit, aware_bit, teps}
use Rattle.eno.specs.Tep.{is_known}
use Rattle.eno.specs.Session.{sent_half, expected_half, in_hand}
use Rattle.eno.specs.Judge.{is_fresh, is_bad, is_resumption, half_of, matches, named, once, of_a, of_b, way_of, way_of_both, teps_of, validity, last_valid, agreed, negotiate, first_of, role_of, aware_of, judge}
use Rattle.eno.specs.Option.{encode, encode_all, option_with, global_of, global_part, fresh_part, resumption_part, without, is_listed, fresh_teps, last_part, offered, answered, known_once, is_tep_list}
use Rattle.eno.specs.declared.SessionRecord.{SessionRecord}
use Rattle.door.specs.Numbers.{each_n}
use Rattle.door.specs.Door.{answering, phase_of, kept, own_option, peer_option, transcript_of, no_session, empty_hand, hand_of, idle_door}
use Rattle.door.specs.Record.{first_that, record_at, is_session}
use Rattle.door.specs.Outcome.{refusal, unless}
use Rattle.door.specs.Offer.{terms_fit, offered_at, offered_door}
use Rattle.door.specs.Offer as offer-spec
use Rattle.door.specs.Answer.{candidate, is_candidate, fitting_at, last_that, choose_tep, answer_reason, plain_door, answered_door, answer_with, answer_length}
use Rattle.door.specs.Answer as answer-spec
use Rattle.door.specs.Receive.{turn, open_door, judged_door, second_reason, presence_reason, received, secret_of}
use Rattle.door.specs.Receive as receive-spec
use Rattle.door.specs.Records.{is_held, is_record}
use Rattle.door.specs.Records as records-spec
use Rattle.door.specs.Numbered.{lent_of}
use Rattle.door.specs.Calls.{offer, answer, receive, resend, result, close, store, forget, count, outcome, cut, effected}
use Rattle.unit.specs.Numbers.{doors_n, rows_n, word_n, words_n}
use Rattle.unit.specs.Marks.{bits_of, marks_in, with_bit, with_mark}
use Rattle.unit.specs.Unit.{idle_position, empty_unit, position_at, mine, records_at, or_next, first_free, marks_after, rows_after, position_after, enact}
use Rattle.unit.specs.Run.{carried, step_on, step, after, moment, moments}
use Rattle.unit.specs.Resumption.{accepted_by, opens, stores}
use Rattle.unit.specs.Entries.{stored, taken, entry, less, standing}
use Rattle.unit.specs.Seen.{exchanges_from, exchanges, resumption_in, sent_for, half_for, less_resumed, records_after, ledger_seen, has_said, resumed_seen, stores_seen}
use Rattle.unit.specs.Ledger.{entered, entries_after, entries_from, entries, ledger}
use Rattle.unit.specs.RunTable.{replies_of, last_buffer, Run, told, low_half, high_half, secret_r, stored_once, resumed_twice, until_freed, until_taken, runs}

-- each run's replies and the last call's buffer are the ones expected
pub run_table : map (λ (r : Run). told r) runs ≡ runs
unfolding runs stored_once until_freed until_taken told replies_of last_buffer doors_n rows_n word_n words_n idle_position empty_unit records_at bits_of marks_in with_bit with_mark or_next first_free marks_after rows_after position_after enact carried step_on step lent_of outcome cut effected
    part pasted same_bytes items items_of option_at options enos choose chosen finding part_of syn_option suboption_at suboptions is_ill_formed
    globals global_byte role_bit aware_bit teps is_known sent_half expected_half in_hand is_fresh is_bad is_resumption half_of matches named once of_a of_b way_of way_of_both teps_of validity last_valid agreed negotiate first_of role_of aware_of judge
    encode encode_all option_with global_of global_part fresh_part resumption_part without is_listed fresh_teps last_part offered answered known_once is_tep_list each_n phase_of kept own_option peer_option transcript_of no_session empty_hand hand_of
    idle_door first_that record_at is_session refusal first_cause unless terms_fit offered_at offered_door offer-spec.offer candidate is_candidate fitting_at last_that choose_tep answer_reason answer-spec.answering plain_door answered_door answer_with answer_length answer-spec.answer
    turn open_door judged_door second_reason presence_reason received secret_of receive-spec.receive receive-spec.resend receive-spec.result receive-spec.close is_held is_record records-spec.store records-spec.forget records-spec.count
run_table = refl

abbrev is_r : SessionRecord → Bool
is_r s = same_bytes (low_half ++ high_half) s.identifier

abbrev session_r : SessionRecord
session_r = record { tep = 0x23; role = 0; identifier = low_half ++ high_half; secret = secret_r }

-- one opening of one store; stored and taken, nothing else is entered, and the ledger stands at none
pub opened_once :
    (opens is_r (moments empty_unit 3 stored_once) ≡ 1)
    × (stores is_r (moments empty_unit 3 stored_once) ≡ 1)
    × (entries 3 stored_once ≡ taken session_r ∷ stored session_r ∷ [])
    × (ledger 3 (take 2 stored_once) ≡ session_r ∷ [])
    × (ledger 3 stored_once ≡ [])
unfolding stored_once entered entries_after entries_from entries entry less standing opens stores accepted_by moments moment doors_n rows_n word_n words_n idle_position empty_unit records_at bits_of marks_in with_bit with_mark or_next first_free marks_after rows_after position_after enact carried step_on step outcome cut effected
    part pasted same_bytes items items_of option_at options enos choose chosen finding part_of syn_option suboption_at suboptions is_ill_formed
    globals global_byte role_bit aware_bit teps is_known sent_half expected_half in_hand is_fresh is_bad is_resumption half_of matches named once of_a of_b way_of way_of_both teps_of validity last_valid agreed negotiate first_of role_of aware_of judge
    encode encode_all option_with global_of global_part fresh_part resumption_part without is_listed fresh_teps last_part offered answered known_once is_tep_list each_n phase_of kept own_option peer_option transcript_of no_session empty_hand hand_of
    idle_door first_that record_at is_session refusal first_cause unless terms_fit offered_at offered_door offer-spec.offer
    turn open_door judged_door second_reason presence_reason received secret_of receive-spec.receive receive-spec.resend receive-spec.result receive-spec.close is_held is_record records-spec.store records-spec.forget records-spec.count
opened_once = (refl, refl, refl, refl, refl)

-- by what the host sees: two connections said resumed, each counted once, of two stores; R is held until the offer takes it
pub seen_twice :
    (resumed_seen (same_bytes secret_r) 3 (exchanges resumed_twice) ≡ 2)
    × (stores_seen is_r 3 (exchanges resumed_twice) ≡ 2)
    × (ledger_seen 3 (exchanges (take 1 resumed_twice)) ≡ session_r ∷ [])
    × (ledger_seen 3 (exchanges (take 2 resumed_twice)) ≡ [])
    × (ledger_seen 3 (exchanges (take 7 resumed_twice)) ≡ session_r ∷ [])
unfolding resumed_twice exchanges_from exchanges has_said resumed_seen stores_seen resumption_in sent_for half_for less_resumed records_after ledger_seen accepted_by less doors_n rows_n word_n words_n idle_position empty_unit records_at bits_of marks_in with_bit with_mark or_next first_free marks_after rows_after position_after enact carried step_on step outcome cut effected
    part pasted same_bytes items items_of option_at options enos choose chosen finding part_of syn_option suboption_at suboptions is_ill_formed
    globals global_byte role_bit aware_bit teps is_known sent_half expected_half in_hand is_fresh is_bad is_resumption half_of matches named once of_a of_b way_of way_of_both teps_of validity last_valid agreed negotiate first_of role_of aware_of judge
    encode encode_all option_with global_of global_part fresh_part resumption_part without is_listed fresh_teps last_part offered answered known_once is_tep_list each_n phase_of kept own_option peer_option transcript_of no_session empty_hand hand_of
    idle_door first_that record_at is_session refusal first_cause unless terms_fit offered_at offered_door offer-spec.offer
    turn open_door judged_door second_reason presence_reason received secret_of receive-spec.receive receive-spec.resend receive-spec.result receive-spec.close is_held is_record records-spec.store records-spec.forget records-spec.count
seen_twice = (refl, refl, refl, refl, refl)

-- the row that door 5 lists first, and the first word of marks before and after door 0 takes it: row 0 is its lowest bit
pub freed_row :
    (mine (position_at (after empty_unit (take 2 until_freed)) 5) ≡ 0 ∷ [])
    × (get_or (after empty_unit (take 2 until_freed)).marks 0 0 ≡ 3)
    × (get_or (after empty_unit until_freed).marks 0 0 ≡ 2)
    × (mine (position_at (after empty_unit until_taken) 0) ≡ 0 ∷ [])
    × (get_or (after empty_unit until_taken).marks 0 0 ≡ 3)
unfolding until_freed until_taken after doors_n rows_n word_n words_n idle_position empty_unit records_at bits_of marks_in with_bit with_mark or_next first_free marks_after rows_after position_after enact carried step_on step outcome cut effected
    same_bytes is_known in_hand each_n no_session empty_hand idle_door first_that is_session refusal first_cause unless is_held is_record records-spec.store records-spec.forget
freed_row = (refl, refl, refl, refl, refl)
