-- Captures worked out by computation: document 01's case K1 at door 3 byte by byte, each number, and which of two numbers comes first.
use Rattle.std.specs.Prelude.{ℕ, ◌≡◌, refl, List, [], ◌∷◌, ◌++◌, map, take, set, replicate}
use Rattle.wire.specs.Bytes.{bytes_from, pasted, part, same_bytes}
use Rattle.wire.specs.Number.{big_endian, number, number_after, number_at}
use Rattle.refusals.specs.Rows.{refusal}
use Rattle.unit.specs.Numbers.{doors_n}
use Rattle.eno.specs.Tep.{is_known}
use Rattle.eno.specs.Walk.{items, items_of}
use Rattle.eno.specs.Area.{option_at, options, enos, choose, chosen, finding, part_of, syn_option}
use Rattle.eno.specs.Suboption.{suboption_at, suboptions, is_ill_formed, globals, global_byte, role_bit, aware_bit, teps}
use Rattle.eno.specs.Session.{sent_half, expected_half}
use Rattle.eno.specs.Option.{is_listed, known_once, is_tep_list, written_as, wrote}
use Rattle.eno.specs.Option as o
use Rattle.eno.specs.Judge.{encrypt, fresh, is_fresh, is_bad, is_resumption, half_of, matches, named, once, of_a, of_b, way_of, way_of_both, teps_of, validity, last_valid, agreed, negotiate, first_of, role_of, aware_of, judge}
use Rattle.door.specs.Offer.{terms_fit}
use Rattle.capture_layout.specs.Layout.{Handshake, handshake_with, joined, size_of, all_bodies, contents_size, extents, entries, file_of, count_in, door_in, place_in, length_in, end_in, is_body, body_in, handshake_in, handshakes_from, handshakes_in}
use Rattle.capture_layout.specs.Setting.{record_at, setting_length, is_setting, value_in, setting_of, is_record, is_unlike, is_refused, is_unfit, mandatory_in, hand_in}
use Rattle.capture_layout.specs.Checking.{any_from, any_body, is_wrong_size, is_past_end, end_before, expected, is_misplaced, has_rest, is_no_door, is_long_area, is_bad_setting, refused_first, refused_then, Checked, sound, refused_with, checked, first_end}
use Rattle.capture_layout.specs.Writing.{count_of, door_at, length_at, bodies_at, bodies_size, all_size, file_size, staged_at, staged_from, staged, is_wrong_count, is_no_door_at, is_long_area_at, is_unfit_in, unfit_from, writing_first, writing_then, write_capture}

-- K1: the first end opens with TEPs 21 and 23, the second answers with 23; both ends' settings
abbrev first_area : List ℕ
first_area = 0x45 ∷ 0x04 ∷ 0x21 ∷ 0x23 ∷ []

abbrev second_area : List ℕ
second_area = 0x45 ∷ 0x04 ∷ 0x01 ∷ 0x23 ∷ []

abbrev first_own : List ℕ
first_own = 0x00 ∷ 0x02 ∷ 0x21 ∷ 0x23 ∷ []

abbrev second_own : List ℕ
second_own = 0x01 ∷ 0x01 ∷ 0x23 ∷ []

abbrev k1_bodies : List ℕ
k1_bodies = first_area ++ (second_area ++ (first_own ++ second_own))

abbrev k1_at : ℕ → Handshake
k1_at d = handshake_with d first_area second_area first_own second_own

-- its file: count, door, place and length of four bodies, the bodies
abbrev k1 : List ℕ
k1 =
    0x00 ∷ 0x01
    ∷ 0x03
    ∷ 0x00 ∷ 0x00 ∷ 0x00 ∷ 0x23 ∷ 0x00 ∷ 0x00 ∷ 0x00 ∷ 0x04
    ∷ 0x00 ∷ 0x00 ∷ 0x00 ∷ 0x27 ∷ 0x00 ∷ 0x00 ∷ 0x00 ∷ 0x04
    ∷ 0x00 ∷ 0x00 ∷ 0x00 ∷ 0x2b ∷ 0x00 ∷ 0x00 ∷ 0x00 ∷ 0x04
    ∷ 0x00 ∷ 0x00 ∷ 0x00 ∷ 0x2f ∷ 0x00 ∷ 0x00 ∷ 0x00 ∷ 0x03
    ∷ k1_bodies

pub k1_file : file_of (k1_at 3 ∷ []) ≡ k1
unfolding file_of entries extents all_bodies joined size_of contents_size big_endian
k1_file = refl

pub k1_handshakes : handshakes_in k1 ≡ k1_at 3 ∷ []
unfolding handshakes_in handshakes_from handshake_in count_in door_in place_in length_in end_in is_body body_in part bytes_from number number_after number_at
k1_handshakes = refl

-- the first end judges TEP 23, fresh
pub k1_judged : first_end k1 0 ≡ encrypt 0 0x23 fresh (first_area ++ second_area)
unfolding first_end count_in door_in place_in length_in end_in is_body body_in part bytes_from number number_after number_at
    record_at setting_length is_setting value_in setting_of mandatory_in hand_in
    same_bytes items items_of option_at options enos choose chosen finding part_of syn_option suboption_at suboptions is_ill_formed globals global_byte role_bit aware_bit teps is_known sent_half expected_half
    is_fresh is_bad is_resumption half_of matches named once of_a of_b way_of way_of_both teps_of validity last_valid agreed negotiate first_of role_of aware_of judge
k1_judged = refl

-- a record: TEP, role, 18 and 32 bytes
abbrev record_with : (tep role : ℕ) → List ℕ
record_with tep role = tep ∷ role ∷ (replicate 18 0xaa ++ replicate 32 0xbb)

-- files and what the checker says of them
abbrev table : List (List ℕ × Checked)
table =
    (k1, sound 1)
    ∷ (0 ∷ 0 ∷ [], sound 0)
    -- 18: no bytes, half a count, a count above 256, shorter than the contents
    ∷ ([], refused_with 18)
    ∷ (0 ∷ [], refused_with 18)
    ∷ (1 ∷ 1 ∷ k1, refused_with 18)
    ∷ (take 34 k1, refused_with 18)
    ∷ (set k1 1 2, refused_with 18)
    -- 19: a byte short; a place and a length whose sum passes 2^32
    ∷ (take 49 k1, refused_with 19)
    ∷ (take 27 k1 ++ (0xff ∷ 0xff ∷ 0xff ∷ 0xff ∷ 0 ∷ 0 ∷ 0 ∷ 2 ∷ k1_bodies), refused_with 19)
    -- a body of no bytes past the end
    ∷ (take 27 k1 ++ (0 ∷ 0 ∷ 0 ∷ 0x33 ∷ 0 ∷ 0 ∷ 0 ∷ 0 ∷ k1_bodies), refused_with 19)
    -- 20: a byte more, a body elsewhere, a rest without a handshake
    ∷ (k1 ++ (0 ∷ []), refused_with 20)
    ∷ (set k1 6 0x24, refused_with 20)
    ∷ (set k1 30 0x2e, refused_with 20)
    ∷ (0 ∷ 0 ∷ 0 ∷ [], refused_with 20)
    -- 19 before 20, wherever they stand
    ∷ (set (set k1 6 0x24) 34 4, refused_with 19)
    -- 1: the last door and the one after it
    ∷ (set k1 2 47, sound 1)
    ∷ (set k1 2 48, refused_with 1)
    -- 20 before 1
    ∷ (set (set k1 2 48) 6 0x24, refused_with 20)
    -- 2: 40 bytes and 41
    ∷ (file_of (handshake_with 3 (replicate 40 1) second_area first_own second_own ∷ []), sound 1)
    ∷ (file_of (handshake_with 3 (replicate 41 1) second_area first_own second_own ∷ []), refused_with 2)
    ∷ (file_of (handshake_with 3 first_area (replicate 41 1) first_own second_own ∷ []), refused_with 2)
    -- 21: bit 4, bit 3 without a record, a TEP too few or too many
    ∷ (set k1 43 0x10, refused_with 21)
    ∷ (set k1 43 0x08, refused_with 21)
    ∷ (set k1 44 1, refused_with 21)
    ∷ (set k1 48 2, refused_with 21)
    -- met by number 3: an unknown TEP, a repeated one, none, mandatory without a
    ∷ (set k1 45 0x25, refused_with 21)
    ∷ (set k1 45 0x23, refused_with 21)
    ∷ (file_of (handshake_with 3 first_area second_area (0 ∷ 0 ∷ []) second_own ∷ []), refused_with 21)
    ∷ (set k1 43 0x04, refused_with 21)
    -- b or a unlike the own option's, at either end
    ∷ (set k1 43 0x01, refused_with 21)
    ∷ (set k1 43 0x02, refused_with 21)
    ∷ (set k1 47 0x00, refused_with 21)
    ∷ (set k1 47 0x03, refused_with 21)
    -- an own option that is ill-formed, an own area that is unreadable or without option: nothing is compared
    ∷ (set (set k1 37 0x80) 43 0x01, sound 1)
    ∷ (set (set k1 36 0x05) 43 0x01, sound 1)
    ∷ (set (set k1 35 0x44) 43 0x01, sound 1)
    -- a record in hand: listed or not, an unknown TEP, role 2
    ∷ (file_of (handshake_with 3 first_area second_area (0x08 ∷ 0x02 ∷ 0x21 ∷ 0x23 ∷ record_with 0x23 0) second_own ∷ []), sound 1)
    ∷ (file_of (handshake_with 3 first_area second_area (0x08 ∷ 0x02 ∷ 0x21 ∷ 0x23 ∷ record_with 0x22 1) second_own ∷ []), sound 1)
    ∷ (file_of (handshake_with 3 first_area second_area (0x08 ∷ 0x02 ∷ 0x21 ∷ 0x23 ∷ record_with 0x20 0) second_own ∷ []), refused_with 21)
    ∷ (file_of (handshake_with 3 first_area second_area (0x08 ∷ 0x02 ∷ 0x21 ∷ 0x23 ∷ record_with 0x23 2) second_own ∷ []), refused_with 21)
    ∷ (file_of (handshake_with 3 first_area second_area (0x00 ∷ 0x02 ∷ 0x21 ∷ 0x23 ∷ record_with 0x23 0) second_own ∷ []), refused_with 21)
    -- the same door twice is sound; the lowest number over all handshakes
    ∷ (file_of (k1_at 3 ∷ k1_at 3 ∷ []), sound 2)
    ∷ (file_of (handshake_with 3 first_area second_area [] second_own ∷ k1_at 200 ∷ []), refused_with 1)
    ∷ (file_of (handshake_with 3 first_area second_area [] second_own ∷ handshake_with 3 first_area (replicate 41 1) first_own second_own ∷ []), refused_with 2)
    ∷ (file_of (k1_at 0 ∷ handshake_with 1 first_area second_area first_own [] ∷ []), refused_with 21)
    ∷ []

pub capture_table : map (λ r. checked r.0) table ≡ map (λ r. r.1) table
unfolding checked refused_first refused_then refusal any_from any_body is_wrong_size is_past_end end_before expected is_misplaced has_rest is_no_door is_long_area is_bad_setting doors_n
    file_of entries extents all_bodies joined size_of contents_size big_endian
    count_in door_in place_in length_in end_in is_body body_in part bytes_from number number_after number_at
    record_at setting_length is_setting value_in setting_of is_record is_unlike is_refused is_unfit
    is_listed known_once is_tep_list terms_fit is_known
    items items_of option_at options enos choose chosen finding part_of syn_option suboption_at suboptions is_ill_formed globals global_byte role_bit aware_bit role_of aware_of
capture_table = refl

-- what is written: numbers, bodies, the lent buffer, and what it holds afterwards
abbrev k1_numbers : List ℕ
k1_numbers = 3 ∷ 4 ∷ 4 ∷ 4 ∷ 3 ∷ []

abbrev room : ℕ → List ℕ
room n = replicate n 0xff

abbrev written : List ((List ℕ × List ℕ × ℕ) × o.Writing)
written =
    ((k1_numbers, k1_bodies, 50), wrote 50)
    ∷ (([], [], 2), wrote 2)
    -- 18: not five numbers each, over size; 19: a body past the bodies; 20: bodies left over
    ∷ ((0 ∷ k1_numbers, k1_bodies, 50), o.refused_with 18)
    ∷ ((set k1_numbers 3 65536, k1_bodies, 50), o.refused_with 18)
    ∷ ((set k1_numbers 4 4, k1_bodies, 50), o.refused_with 19)
    ∷ ((set k1_numbers 4 2, k1_bodies, 50), o.refused_with 20)
    -- 1 and 2 before 5, 5 before 21
    ∷ ((set k1_numbers 0 48, k1_bodies, 49), o.refused_with 1)
    ∷ ((set k1_numbers 1 41, replicate 37 1 ++ k1_bodies, 49), o.refused_with 2)
    ∷ ((k1_numbers, k1_bodies, 49), o.refused_with 5)
    ∷ ((k1_numbers, set k1_bodies 8 1, 49), o.refused_with 5)
    ∷ ((k1_numbers, set k1_bodies 8 1, 50), o.refused_with 21)
    ∷ ((k1_numbers, set k1_bodies 12 0, 50), o.refused_with 21)
    ∷ []

pub written_table : map (λ r. (write_capture r.0.0 r.0.1 (room r.0.2)).says) written ≡ map (λ r. r.1) written
unfolding write_capture writing_first writing_then refusal any_from unfit_from is_unfit_in is_no_door_at is_long_area_at is_wrong_count staged staged_from staged_at file_size all_size bodies_size bodies_at length_at door_at count_of doors_n
    file_of entries extents all_bodies joined size_of contents_size big_endian part pasted
    record_at setting_length is_setting value_in setting_of is_record is_unlike is_refused is_unfit
    is_listed known_once is_tep_list terms_fit is_known
    items items_of option_at options enos choose chosen finding part_of syn_option suboption_at suboptions is_ill_formed globals global_byte role_bit aware_bit role_of aware_of
written_table = refl

-- the bytes that K1's writing leaves: the file, and what stood behind it
pub k1_written : write_capture k1_numbers k1_bodies (room 52) ≡ written_as (wrote 50) (k1 ++ (0xff ∷ 0xff ∷ []))
unfolding write_capture writing_first writing_then refusal any_from unfit_from is_unfit_in is_no_door_at is_long_area_at is_wrong_count staged staged_from staged_at file_size all_size bodies_size bodies_at length_at door_at count_of doors_n
    file_of entries extents all_bodies joined size_of contents_size big_endian part pasted
    record_at setting_length is_setting value_in setting_of is_record is_unlike is_refused is_unfit
    is_listed known_once is_tep_list terms_fit is_known
    items items_of option_at options enos choose chosen finding part_of syn_option suboption_at suboptions is_ill_formed globals global_byte role_bit aware_bit role_of aware_of
k1_written = refl
