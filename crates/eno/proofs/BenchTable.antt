-- Cases K1 to K12 of document 01's bench table, with those on bit a, on the record R and on unreadable areas: one table, one claim about all rows.
use Rattle.std.specs.Prelude.{◌≡◌, refl, ◌∷◌, ◌++◌, map}
use Rattle.wire.specs.Bytes.{part, same_bytes}
use Rattle.wire.specs.Number.{big_endian}
use Rattle.wire.specs.Frame.{frame_id_after, xor_bytes, frame_prefix, frame_id, nonce}
use Rattle.eno.specs.Walk.{items, items_of}
use Rattle.eno.specs.Area.{option_at, options, enos, choose, chosen, finding, part_of, syn_option}
use Rattle.eno.specs.Suboption.{suboption_at, suboptions, is_ill_formed, globals, global_byte, role_bit, aware_bit, teps}
use Rattle.eno.specs.Tep.{is_known}
use Rattle.eno.specs.Session.{sent_half, expected_half}
use Rattle.eno.specs.Judge.{is_fresh, is_bad, is_resumption, half_of, matches, named, once, of_a, of_b, way_of, way_of_both, teps_of, validity, last_valid, agreed, negotiate, first_of, role_of, aware_of, judge}
use Rattle.eno.specs.Content.{content_of, contents}
use Rattle.eno.specs.BenchTable.{Row, answer, table}

-- each row's answer is the one expected
pub bench_table : map (λ (r : Row). answer r.given) table ≡ map (λ (r : Row). r.expected) table
unfolding table answer part same_bytes big_endian frame_id_after xor_bytes frame_prefix frame_id nonce items items_of option_at options enos choose chosen finding part_of syn_option
    suboption_at suboptions is_ill_formed globals global_byte role_bit aware_bit teps is_known sent_half expected_half
    is_fresh is_bad is_resumption half_of matches named once of_a of_b way_of way_of_both teps_of validity last_valid agreed negotiate first_of role_of aware_of judge content_of contents
bench_table = refl
