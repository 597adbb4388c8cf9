-- Runs of one door: one table, one claim about all rows.
use Rattle.std.specs.Prelude.{◌≡◌, refl, ◌∷◌, ◌++◌, map}
use Rattle.wire.specs.Bytes.{part, pasted, same_bytes}
use Rattle.eno.specs.Walk.{items, items_of}
use Rattle.eno.specs.Area.{option_at, options, enos, choose, chosen, finding, part_of, syn_option}
use Rattle.eno.specs.Suboption.{suboption_at, suboptions, is_ill_formed, globals, global_byte, role_bit, aware_bit, teps}
use Rattle.eno.specs.Cause.{first_cause}
use Rattle.eno.specs.Tep.{is_known}
use Rattle.eno.specs.Session.{sent_half, expected_half, in_hand}
use Rattle.eno.specs.Judge.{is_fresh, is_bad, is_resumption, half_of, matches, named, once, of_a, of_b, way_of, way_of_both, teps_of, validity, last_valid, agreed, negotiate, first_of, role_of, aware_of, judge}
use Rattle.eno.specs.Option.{encode, encode_all, option_with, global_of, global_part, fresh_part, resumption_part, without, is_listed, fresh_teps, last_part, offered, answered, known_once, is_tep_list}
use Rattle.door.specs.Numbers.{each_n}
use Rattle.door.specs.Door.{answering, phase_of, kept, own_option, peer_option, transcript_of, no_session, empty_hand, hand_of, idle_door}
use Rattle.door.specs.Record.{first_that, record_at, is_session}
use Rattle.door.specs.Outcome.{refusal, unless}
use Rattle.door.specs.Offer.{terms_fit, offered_at, offered_door}
use Rattle.door.specs.Offer as offer-spec
use Rattle.door.specs.Answer.{candidate, is_candidate, fitting_at, last_that, choose_tep, answer_reason, plain_door, answered_door, answer_with, answer_length}
use Rattle.door.specs.Answer as answer-spec
use Rattle.door.specs.Receive.{turn, open_door, judged_door, second_reason, presence_reason, received, secret_of}
use Rattle.door.specs.Receive as receive-spec
use Rattle.door.specs.Records.{is_held, is_record}
use Rattle.door.specs.Records as records-spec
use Rattle.door.specs.Calls.{offer, answer, receive, resend, result, close, store, forget, count, outcome, cut, effected, after}
use Rattle.door.specs.RunTable.{replies_of, last_buffer, empty_seen, Run, told, runs}

-- each run's replies and the last call's buffer are the ones expected
pub run_table : map (λ (r : Run). told r) runs ≡ runs
unfolding runs told replies_of last_buffer empty_seen outcome cut effected after part pasted same_bytes items items_of option_at options enos choose chosen finding part_of syn_option suboption_at suboptions is_ill_formed
    globals global_byte role_bit aware_bit teps is_known sent_half expected_half in_hand is_fresh is_bad is_resumption half_of matches named once of_a of_b way_of way_of_both teps_of validity last_valid agreed negotiate first_of role_of aware_of judge
    encode encode_all option_with global_of global_part fresh_part resumption_part without is_listed fresh_teps last_part offered answered known_once is_tep_list each_n phase_of kept own_option peer_option transcript_of no_session empty_hand hand_of
    idle_door first_that record_at is_session refusal first_cause unless terms_fit offered_at offered_door offer-spec.offer candidate is_candidate fitting_at last_that choose_tep answer_reason answer-spec.answering plain_door answered_door answer_with answer_length answer-spec.answer
    turn open_door judged_door second_reason presence_reason received secret_of receive-spec.receive receive-spec.resend receive-spec.result receive-spec.close is_held is_record records-spec.store records-spec.forget records-spec.count
run_table = refl
