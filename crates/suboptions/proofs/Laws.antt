-- Laws of the summary: what it says of an option, in the terms of document 01.
use Rattle.std.specs.Prelude.{ℕ, zero, suc, ◌+◌, ◌-◌, ◌≤◌, ◌<◌, ◌≡◌, refl, List, [], ◌∷◌, eqb, length, get_or, replicate}
use Rattle.std.proofs.Common.{◌∙◌, ap, arith, le-ltb, lt-ltb}
use Rattle.eno.specs.Walk.{Reading, readable, faulty, listed}
use Rattle.eno.specs.Suboption.{Sent, Suboption, suboptions, is_ill_formed, globals, global_byte, role_bit, aware_bit, teps}
use Rattle.eno.specs.Judge.{named, teps_of, role_of, aware_of}
use Rattle.suboptions.specs.Summary.{never, again, entry_from, entries_from, entries_of, ill_formed, summed, summary_of}
use Rattle.suboptions.specs.declared.Entry.{Entry}
use Rattle.suboptions.specs.Laws.{saying}

summed_says : (r : Reading (Unit {0}) Suboption) → summed r ≡ saying (is_ill_formed r) (role_bit (listed r)) (eqb (aware_bit (listed r)) 1) (entries_of (teps (listed r)))
unfolding summed is_ill_formed role_bit aware_bit global_byte globals teps entries_of entries_from entry_from named
summed_says (readable l) = refl
summed_says (faulty f) = refl

-- of as many bytes as an option may have, the summary is that of the suboptions
pub summary_within : (o : List ℕ) → length o ≤ 255 → summary_of o ≡ summed (suboptions o)
unfolding summary_of
summary_within o h = simp (le-ltb _ _ h)

-- of more bytes, it is that of an ill-formed option
pub summary_beyond : (o : List ℕ) → 255 < length o → summary_of o ≡ ill_formed
unfolding summary_of
summary_beyond o h = simp (lt-ltb _ _ h)

-- ill-formed or not, b, a, and the entries of the TEPs
pub summary_says : (o : List ℕ) → length o ≤ 255 → summary_of o ≡ saying (is_ill_formed (suboptions o)) (role_of o) (eqb (aware_of o) 1) (entries_of (teps_of o))
unfolding role_of aware_of teps_of
summary_says o h = summary_within o h ∙ summed_says (suboptions o)

-- the entry of the TEP t + k of those from t on
entry_from_lem : (t : ℕ) (es : List Entry) (l : List Sent) (k : ℕ) → k < length es → get_or (entries_from t es l) k never ≡ entry_from (get_or es k never) (named (t + k) l)
unfolding entries_from
entry_from_lem t [] l k h = absurd (omega arith)
entry_from_lem t (e ∷ es) l zero h = ap (λ n. entry_from e (named n l)) (let q : t ≡ t + 0 = omega arith in q)
entry_from_lem t (e ∷ es) l (suc k) h =
    entry_from_lem (t + 1) es l k (omega arith) ∙ ap (λ n. entry_from (get_or es k never) (named n l)) (let q : t + 1 + k ≡ t + suc k = omega arith in q)

none_sent : (n k : ℕ) → get_or (replicate n never) k never ≡ never
none_sent zero k = refl
none_sent (suc n) zero = refl
none_sent (suc n) (suc k) = none_sent n k

pub entry_of_lem : (l : List Sent) (t : ℕ) → 0x21 ≤ t → t ≤ 0x24 → get_or (entries_of l) (t - 0x21) never ≡ entry_from never (named t l)
unfolding entries_of
entry_of_lem l t low high =
    let q : 0x21 + (t - 0x21) ≡ t = omega arith in
    let k : t - 0x21 < 4 = omega arith in
    entry_from_lem 0x21 (replicate 4 never) l (t - 0x21) k ∙ (ap (λ e. entry_from e (named (0x21 + (t - 0x21)) l)) (none_sent 4 (t - 0x21)) ∙ ap (λ n. entry_from never (named n l)) q)

from_times : (e : Entry) (l : List Sent) → (entry_from e l).times ≡ e.times + length l
unfolding entry_from again
from_times e [] = omega arith
from_times e (x ∷ l) = let h = from_times (again e x) l in omega arith

-- how often a TEP was sent
pub entry_times : (l : List Sent) → (entry_from never l).times ≡ length l
entry_times l = from_times never l ∙ (let q : 0 + length l ≡ length l = omega arith in q)

-- and, if once, its byte and where its data stands
pub entry_once : (x : Sent) → entry_from never (x ∷ []) ≡ record { times = 1; byte = x.byte; start = x.start; len = x.len }
unfolding entry_from again
entry_once x = refl
