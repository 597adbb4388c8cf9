-- Worked examples by computation: a session resumed, seen at each end, with and without nonces; what has no terms.
use Rattle.std.specs.Prelude.{ℕ, refl, List, [], ◌∷◌, ◌++◌, replicate}
use Rattle.wire.specs.Bytes.{part, same_bytes}
use Rattle.refusals.specs.Rows.{refusal}
use Rattle.eno.specs.Walk.{items, items_of}
use Rattle.eno.specs.Suboption.{suboption_at, suboptions, is_ill_formed, teps}
use Rattle.eno.specs.Tep.{is_known}
use Rattle.eno.specs.Judge.{is_fresh, is_resumption, named, once, teps_of}
use Rattle.key_terms.specs.Terms.{option_of_a, option_of_b, is_whole, data_of, resumption_data, half_in, nonce_in, original_role, keyed_by, carrying, terms_by, terms}
use Rattle.key_terms.specs.Calls.{refused, resumed, no_terms, Outcome, in_eight, zeros, given, unless, unfit, resumption_terms}
use Rattle.key_terms.specs.Examples.{Row, Holds}

-- the identifier 00 01 .. 11 and its halves
abbrev first : List ℕ
first = 0 ∷ 1 ∷ 2 ∷ 3 ∷ 4 ∷ 5 ∷ 6 ∷ 7 ∷ 8 ∷ []

abbrev second : List ℕ
second = 9 ∷ 10 ∷ 11 ∷ 12 ∷ 13 ∷ 14 ∷ 15 ∷ 16 ∷ 17 ∷ []

-- 45 0d 21 a3 00..08, then 45 0d 01 a3 09..11: host A proposes fresh 21 and to resume 23, with no nonce
abbrev bare : List ℕ
bare = 0x45 ∷ 0x0d ∷ 0x21 ∷ 0xa3 ∷ (first ++ 0x45 ∷ 0x0d ∷ 0x01 ∷ 0xa3 ∷ second)

-- the same with the nonces 0102 and 030405, by ends that have changed places: host A was host B
abbrev crossed : List ℕ
crossed = 0x45 ∷ 0x0e ∷ 0xa3 ∷ (second ++ 0x01 ∷ 0x02 ∷ 0x45 ∷ 0x10 ∷ 0x01 ∷ 0xa3 ∷ (first ++ 0x03 ∷ 0x04 ∷ 0x05 ∷ []))

abbrev none_there : Outcome
none_there = record { says = no_terms; original = 0; length_a = 0; nonce_a = replicate 8 0; length_b = 0; nonce_b = replicate 8 0 }

abbrev row : (role tep : ℕ) (identifier transcript : List ℕ) → Outcome → Row
row role tep identifier transcript x = record { role = role; tep = tep; identifier = identifier; transcript = transcript; gives = x }

abbrev gives : (original length_a : ℕ) (nonce_a : List ℕ) (length_b : ℕ) (nonce_b : List ℕ) → Outcome
gives o n a m b = record { says = resumed; original = o; length_a = n; nonce_a = a; length_b = m; nonce_b = b }

pub table : List Row
table =
    -- seen at host A, and at host B
    row 0 0xa3 (first ++ second) bare (gives 0 0 (replicate 8 0) 0 (replicate 8 0))
    ∷ row 1 0x23 (first ++ second) bare (gives 1 0 (replicate 8 0) 0 (replicate 8 0))
    -- with nonces: first that of the original host A, whoever opened now
    ∷ row 0 0xa3 (first ++ second) crossed (gives 1 3 (3 ∷ 4 ∷ 5 ∷ replicate 5 0) 2 (1 ∷ 2 ∷ replicate 6 0))
    ∷ row 1 0xa3 (first ++ second) crossed (gives 0 3 (3 ∷ 4 ∷ 5 ∷ replicate 5 0) 2 (1 ∷ 2 ∷ replicate 6 0))
    -- another TEP, equal halves, another identifier, no transcript, a transcript with a byte behind it
    ∷ row 0 0xa4 (first ++ second) bare none_there
    ∷ row 0 0xa3 (first ++ first) bare none_there
    ∷ row 0 0xa3 (second ++ first) (0x45 ∷ 0x04 ∷ 0x21 ∷ 0x23 ∷ 0x45 ∷ 0x04 ∷ 0x01 ∷ 0x23 ∷ []) none_there
    ∷ row 0 0xa3 (first ++ second) [] none_there
    ∷ row 0 0xa3 (first ++ second) (bare ++ 0 ∷ []) none_there
    -- refused: role 2, TEP 25, an identifier of 17 bytes
    ∷ row 2 0xa3 (first ++ second) bare (zeros (refused 3))
    ∷ row 0 0xa5 (first ++ second) bare (zeros (refused 3))
    ∷ row 0 0xa3 (1 ∷ 2 ∷ 3 ∷ 4 ∷ 5 ∷ 6 ∷ 7 ∷ 8 ∷ second) bare (zeros (refused 3))
    ∷ []

pub rows_hold : Holds table
unfolding table resumption_terms unfit unless given zeros in_eight refusal is_known terms terms_by carrying keyed_by original_role half_in nonce_in resumption_data data_of is_whole option_of_a option_of_b part same_bytes teps_of named once is_resumption is_fresh suboptions is_ill_formed teps suboption_at items items_of
rows_hold = (refl, (refl, (refl, (refl, (refl, (refl, (refl, (refl, (refl, (refl, (refl, (refl, tt))))))))))))
