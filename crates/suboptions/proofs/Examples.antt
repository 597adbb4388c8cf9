-- What a walk finds of the options of K6 to K8, of both forms of one TEP, and of an option full of TEPs: closed by computation.
use Rattle.std.specs.Prelude.{ℕ, ◌≡◌, refl, List, [], ◌∷◌, ◌++◌, false, replicate}
use Rattle.wire.specs.Bytes.{part}
use Rattle.eno.specs.Walk.{items, items_of}
use Rattle.eno.specs.Suboption.{suboption_at, suboptions, globals, global_byte, role_bit, aware_bit, teps}
use Rattle.eno.specs.Judge.{named}
use Rattle.suboptions.specs.Summary.{never, again, entry_from, entries_from, entries_of, ill_formed, summed, summary_of}
use Rattle.suboptions.specs.declared.Entry.{Entry}
use Rattle.suboptions.specs.declared.Summary.{Summary}

abbrev nine_bytes : List ℕ
nine_bytes = 1 ∷ 2 ∷ 3 ∷ 4 ∷ 5 ∷ 6 ∷ 7 ∷ 8 ∷ 9 ∷ []

-- the option of K6 with another length byte
abbrev with_length : ℕ → List ℕ
with_length n = 0x45 ∷ 14 ∷ n ∷ 0xa3 ∷ nine_bytes ++ 0x21 ∷ []

-- sent so often; the last time this byte, its data from there on, so long
abbrev sent : ℕ → ℕ → ℕ → ℕ → Entry
sent times byte start len = record { times = times; byte = byte; start = start; len = len }

-- b = 0, a = 0, and of 21 and 23 this
abbrev with_teps : Entry → Entry → Summary
with_teps of-21 of-23 = record { ill_formed = false; role = 0; aware = false; teps = of-21 ∷ never ∷ of-23 ∷ never ∷ [] }

-- K6: 23 once with nine bytes, 21 once with none
pub k6_found : summary_of (with_length 0x88) ≡ with_teps (sent 1 0x21 14 0) (sent 1 0xa3 4 9)
unfolding summary_of summed items items_of suboption_at suboptions globals global_byte role_bit aware_bit teps named again entry_from entries_from entries_of
k6_found = refl

pub k6_data : part 4 9 (with_length 0x88) ≡ nine_bytes
unfolding part
k6_data = refl

-- K7: 23 alone, ten data bytes
pub k7_found : summary_of (with_length 0x89) ≡ with_teps never (sent 1 0xa3 4 10)
unfolding summary_of summed items items_of suboption_at suboptions globals global_byte role_bit aware_bit teps named again entry_from entries_from entries_of
k7_found = refl

pub k7_data : part 4 10 (with_length 0x89) ≡ nine_bytes ++ 0x21 ∷ []
unfolding part
k7_data = refl

-- K8: ill-formed
pub k8_found : summary_of (with_length 0x8a) ≡ ill_formed
unfolding summary_of summed items items_of suboption_at suboptions globals global_byte role_bit aware_bit teps named again entry_from entries_from entries_of
k8_found = refl

-- 23 and a3 are one TEP, sent twice
pub both_forms : summary_of (0x45 ∷ 4 ∷ 0x23 ∷ 0xa3 ∷ []) ≡ with_teps never (sent 2 0xa3 4 0)
unfolding summary_of summed items items_of suboption_at suboptions globals global_byte role_bit aware_bit teps named again entry_from entries_from entries_of
both_forms = refl

-- as many TEPs as 40 bytes hold are counted exactly
pub thirty_eight : summary_of (0x45 ∷ 40 ∷ replicate 38 0x21) ≡ with_teps (sent 38 0x21 40 0) never
unfolding summary_of summed items items_of suboption_at suboptions globals global_byte role_bit aware_bit teps named again entry_from entries_from entries_of
thirty_eight = refl
