-- An answer's reason is the judge's: where an answer ends in Plain, the judge gives the same cause for every option that this answer could have written.
use Rattle.std.specs.Prelude.{ℕ, ◌+◌, ◌≡◌, Bool, true, cond, not, ◌&&◌, ◌||◌, ◌↔◌, ltb, leb, eqb}
use Rattle.std.proofs.Math.Path.{refl, ap}
use Rattle.std.proofs.Common.{sym, ◌∙◌, true≢false}
use mathlib.Core.List.{List, [], ◌∷◌}
use Rattle.std.proofs.Math.Bool.{false}
use Rattle.std.proofs.lemmas.Bool.{false≢true}
use Rattle.std.proofs.Math.Option.{Option, none, some}
use native.Mathlib.Omega.{arith}
use borrow.Author.Tests.{eqb-true, ne_eqb, eq-eqb, eqb-false}
use Rattle.std.proofs.Math.ListN.{length}
use Rattle.eno.specs.Walk.{readable, listed}
use Rattle.eno.specs.Area.{syn_option}
use Rattle.eno.specs.Cause.{numbered, first_cause}
use Rattle.eno.specs.Suboption.{Sent, global, tep, suboptions, is_ill_formed, globals, global_byte, role_bit, teps, name}
use Rattle.eno.specs.Judge as judged
use Rattle.eno.specs.Judge.{is_bad, named, once, of_b, Way, Sides, way_of, way_of_both, teps_of, validity, last_valid, agreed, negotiate, Judged, first_of, too_long, role_of, judge}
use Rattle.eno.specs.Tep.{is_known}
use Rattle.eno.specs.Option.{encode, encode_all, option_with, global_of, resumption_part, is_listed, is_tep_list, record_listed, answered}
use Rattle.eno.specs.Laws.Suboption.{sent_as}
use Rattle.eno.specs.Laws.Walk.{Every}
use Rattle.eno.specs.Laws.Asked.{IsTep}
use Rattle.eno.proofs.Laws.Asked.{and_true, listed_tep}
use Rattle.eno.specs.declared.SessionRecord.{SessionRecord}
use Rattle.eno.specs.declared.Cause.{Cause}
use Rattle.door.specs.Door.{phase_of, Seen}
use Rattle.door.specs.Record.{record_at}
use Rattle.door.specs.Outcome.{Outcome, refused, plain, refusal, unless}
use Rattle.door.specs.Offer.{is_idle, terms_fit}
use Rattle.door.specs.Answer.{is_candidate, Choice, choose_tep, chosen_or, reason_or, answer_reason, Answering, plain_for, with, answer_with, answer_length, answering, answer}
use Rattle.door.specs.Laws.Choice.{Chosen, freshly, resuming}
use Rattle.door.proofs.Laws.Choice.{good_candidate, none_chosen, listed_here, chosen}
use Rattle.door.specs.Laws.Judged.{as_b}
use Rattle.door.proofs.Laws.Judged.{reads_data, reads_bare, found_there}
use Rattle.door.proofs.Laws.Answered.{terms, global_b, answer_short, answer_alone, answer_there}
use Rattle.door.proofs.Causes.{said, first_fails}
use Rattle.door.proofs.Verdict.{answer_agrees}
use Rattle.door.specs.declared.Door.{Door}
use Rattle.door.specs.AnswerReason.{cause_or}

abbrev as_rows : List (Bool × Cause) → List (Bool × Judged)
as_rows [] = []
as_rows (t ∷ l) = (t.0, judged.plain t.1) ∷ as_rows l

rows_first : (l : List (Bool × Cause)) (j : Judged) → first_of (as_rows l) j ≡ cause_or (first_cause l) j
unfolding first_of first_cause
rows_first [] j = refl
rows_first (t ∷ l) j = go t.0 (rows_first l j)
  where
    go : (b : Bool) → first_of (as_rows l) j ≡ cause_or (first_cause l) j → cond b (judged.plain t.1) (first_of (as_rows l) j) ≡ cause_or (cond b (some t.1) (first_cause l)) j
    go true e = refl
    go false e = e

same_either_way : (m n : ℕ) → eqb m n ≡ eqb n m
same_either_way m n = go (eqb n m) refl
  where
    go : (b : Bool) → eqb n m ≡ b → eqb m n ≡ b
    go true e = eq-eqb m n (sym (eqb-true n m e))
    go false e = ne_eqb m n (λ q. eqb-false n m e (sym q))

or_false : (b : Bool) → b || false ≡ true → b ≡ true
or_false true e = refl
or_false false e = e

not_false : (b : Bool) → not b ≡ false → b ≡ true
not_false true e = refl
not_false false e = absurd (true≢false e)

rest_fails : (b : Bool) (n : ℕ) (l : List (Bool × ℕ)) → refusal ((b, n) ∷ l) ≡ none → refusal l ≡ none
unfolding refusal
rest_fails true n l e = let z : ◌≡◌ {A = ℕ} 0 1 = cc in absurd (omega arith)
rest_fails false n l e = e

either_bad : (a b : Bool) → b ≡ true → a || b ≡ true
either_bad true b e = refl
either_bad false b e = e

none_either_way : (b : Bool) (m : Option Way) → m ≡ none → cond b m none ≡ none
none_either_way true m e = e
none_either_way false m e = refl

-- a TEP that A did not send once and well is not valid
module _ (hand : Option SessionRecord) (own peer : List ℕ) (t : ℕ) where
  abbrev sides : Sides
  sides = as_b hand own peer

  none_both : (m : Option Sent) → way_of_both sides t m none ≡ none
  unfolding way_of_both
  none_both none = refl
  none_both (some x) = refl

  bad_both : (m : Option Sent) (y : Sent) → is_bad y ≡ true → way_of_both sides t m (some y) ≡ none
  unfolding way_of_both way_of
  bad_both none y e = refl
  bad_both (some x) y e = simp (either_bad (is_bad x) (is_bad y) e)

  not_valid : is_candidate peer t ≡ false → validity sides t ≡ none
  unfolding validity
  not_valid c = none_either_way (is_known t) _ (go (once (named t (teps_of peer))) refl)
    where
      mine : Option Sent
      mine = once (named t (teps_of own))

      one : (y : Sent) → once (named t (teps_of peer)) ≡ some y → (b : Bool) → is_bad y ≡ b → way_of_both sides t mine (some y) ≡ none
      one y e true q = bad_both mine y q
      one y e false q = absurd (true≢false (sym (good_candidate peer t y e q) ∙ c))

      go : (m : Option Sent) → once (named t (teps_of peer)) ≡ m → way_of_both sides t mine m ≡ none
      go none e = none_both mine
      go (some y) e = one y e (is_bad y) refl

-- an option of one global byte g and one TEP named t
record OneTep (o : List ℕ) (g t : ℕ) : Type 0 where
  sent : Sent
  reads : suboptions o ≡ readable (global g ∷ tep sent ∷ [])
  of_name : name sent ≡ t

module _ (aware : Bool) (t : ℕ) (nonce : List ℕ) (i : IsTep t) where
  one_tep : (r : Option SessionRecord) → record_listed r (t ∷ []) ≡ true → OneTep (option_with (answered aware t r nonce)) (global_of 1 aware) t
  unfolding answered option_with encode_all encode resumption_part record_listed is_listed
  one_tep none e = record { sent = sent_as false t 4 0; reads = reads_bare _ (global_of 1 aware) t (global_b aware).0 (omega arith) (omega arith); of_name = omega arith }
  one_tep (some r) e =
      let same : t ≡ r.tep = eqb-true t r.tep (or_false _ e) in
      record {
        sent = sent_as false (r.tep + 0x80) 4 _;
        reads = reads_data _ (global_of 1 aware) (r.tep + 0x80) _ (global_b aware).0 (omega arith);
        of_name = omega arith;
      }

-- the judge, as host B of an option that an answer may write: the answer's reason, else by the TEPs
module _ (mandatory : Bool) (hand : Option SessionRecord) (aware : Bool) (t : ℕ) (r : Option SessionRecord) (nonce area : List ℕ) (i : IsTep t) (n : leb (length nonce) 8 ≡ true)
    (l : record_listed r (t ∷ []) ≡ true) (fits : too_long area ≡ false) where
  abbrev own : List ℕ
  own = option_with (answered aware t r nonce)

  one : OneTep own (global_of 1 aware) t
  one = one_tep aware t nonce i r l

  role_b : role_of own ≡ 1
  unfolding role_of role_bit global_byte globals
  role_b = ap (λ x. role_bit (listed x)) one.reads ∙ (global_b aware).1

  well : is_ill_formed (suboptions own) ≡ false
  unfolding is_ill_formed
  well = ap is_ill_formed one.reads

  teps_b : teps_of own ≡ one.sent ∷ []
  unfolding teps_of teps
  teps_b = ap (λ x. teps (listed x)) one.reads

  judged_by_reason : judge mandatory hand own area ≡ cause_or (answer_reason mandatory area) (negotiate 1 (as_b hand own (syn_option area)))
  unfolding judge first_of answer_reason
  judged_by_reason =
      let alone = answer_alone aware t r nonce i n l in
      let there = answer_there aware t r nonce i n l in
      let f = found_there own (λ z. there (sym (ap length alone) ∙ z)) in
      simp (answer_short aware t r nonce i n l, fits, f.0, f.1, alone, well, role_b, same_either_way 1 (role_of (syn_option area))) (rows_first _ _)

  -- where A did not send the TEP once and well, no TEP is valid
  none_valid : is_candidate (syn_option area) t ≡ false → negotiate 1 (as_b hand own (syn_option area)) ≡ judged.plain (numbered 6)
  unfolding negotiate agreed last_valid of_b
  none_valid c = rw (teps_b, last_valid, one.of_name, not_valid hand own (syn_option area) t c)

answer_plain : (v : Seen) (aware mandatory : Bool) (p nonce s : List ℕ) (c : Cause) (a : Answering) → (answer_with v aware mandatory p nonce s a).reply ≡ plain c → a ≡ plain_for c
unfolding answer_with
answer_plain v aware mandatory p nonce s c (plain_for n) e = let same : n ≡ c = cc in ap plain_for same
answer_plain v aware mandatory p nonce s c (with m) e = let z : ◌≡◌ {A = ℕ} 0 1 = cc in absurd (omega arith)

-- the cause of an answer is the reason of its area, or 6 where there is no choice
same_cause : (m : Option Cause) (ch : Option Choice) (c : Cause) (j : Judged) → reason_or m (chosen_or ch) ≡ plain_for c → (ch ≡ none → j ≡ judged.plain (numbered 6)) → cause_or m j ≡ judged.plain c
same_cause (some n) ch c j e f = let same : n ≡ c = cc in ap judged.plain same
same_cause none none c j e f = let same : numbered 6 ≡ c = cc in f refl ∙ ap judged.plain same
same_cause none (some m) c j e f = let z : ◌≡◌ {A = ℕ} 0 1 = cc in absurd (omega arith)

-- where an answer ends in Plain with the cause c, the judge gives c for every option that this answer could have written: of a listed TEP, fresh or with a record of that TEP, whatever is in hand
pub answer_reason_is_judged : (v : Seen) (area : List ℕ) (aware mandatory : Bool) (list nonce s : List ℕ) (c : Cause) → (answer v area aware mandatory list nonce s).reply ≡ plain c
    → (t : ℕ) (r hand : Option SessionRecord) → is_listed t list ≡ true → record_listed r (t ∷ []) ≡ true → judge mandatory hand (option_with (answered aware t r nonce)) area ≡ judged.plain c
unfolding answer answering
answer_reason_is_judged v area aware mandatory list nonce s c e t r hand l k =
    let q = said _ v.door s _ c e in
    let fits = first_fails (too_long area) 2 _ q.0 in
    let apt = not_false _ (first_fails (not (terms_fit aware mandatory list nonce)) 3 _ (rest_fails (too_long area) 2 _ q.0)) in
    let w = terms aware mandatory list nonce apt in
    let i = listed_tep t list w.0 l in
    judged_by_reason mandatory hand aware t r nonce area i w.1 k fits
    ∙ same_cause (answer_reason mandatory area) (choose_tep (syn_option area) list v.held) c _
    (answer_plain v aware mandatory (syn_option area) nonce s c _ (sym (ap (λ (y : Outcome). y.reply) q.1) ∙ e))
    (λ x. none_valid mandatory hand aware t r nonce area i w.1 k fits (none_chosen (syn_option area) list v.held x t l))

-- a call that is not refused
allowed : (t : Option ℕ) (d : Door) (s : List ℕ) (x : Outcome) → ((n : ℕ) → (unless t d s x).reply ≡ refused n → ⊥) → (t ≡ none) × (unless t d s x ≡ x)
unfolding unless
allowed none d s x z = (refl, refl)
allowed (some n) d s x z = absurd (z n refl)

one_listed : (list : List ℕ) → is_tep_list list ≡ true → (t : ℕ) × (is_listed t list ≡ true)
unfolding is_tep_list
one_listed [] e = absurd (false≢true e)
one_listed (t ∷ l) e = (t, listed_here t l)

same_plain : (j : Judged) (n c : Cause) → j ≡ judged.plain n → j ≡ judged.plain c → n ≡ c
same_plain j n c p q = let z : judged.plain n ≡ judged.plain c = sym p ∙ q in cc

reasoned_with : (m : Option Cause) (ch : Option Choice) (c : Choice) → reason_or m (chosen_or ch) ≡ with c → (m ≡ none) × (ch ≡ some c)
reasoned_with (some n) ch c e = let z : ◌≡◌ {A = ℕ} 0 1 = cc in absurd (omega arith)
reasoned_with none none c e = let z : ◌≡◌ {A = ℕ} 0 1 = cc in absurd (omega arith)
reasoned_with none (some d) c e = let same : d ≡ c = cc in (refl, ap some same)

chosen_listed : (o list : List ℕ) (held : List SessionRecord) (c : Choice) → Chosen o list held c → (is_listed c.tep list ≡ true) × (record_listed (record_at held c.at) (c.tep ∷ []) ≡ true)
unfolding record_listed is_listed
chosen_listed o list held c (freshly l w there) = (l, rw there)
chosen_listed o list held c (resuming l w n within r is there e expected) = (l, rw there (simp (eq-eqb c.tep r.tep (sym e))))

encrypt_not_plain : (role byte : ℕ) (way : Way) (t : List ℕ) (c : Cause) → judged.encrypt role byte way t ≡ judged.plain c → ⊥
encrypt_not_plain role byte way t c e = let z : ◌≡◌ {A = ℕ} 0 1 = cc in omega arith

list_fits : (aware mandatory : Bool) (list nonce : List ℕ) → terms_fit aware mandatory list nonce ≡ true → is_tep_list list ≡ true
unfolding terms_fit
list_fits aware mandatory list nonce e = (and_true (is_tep_list list) (leb (length nonce) 8) (and_true (is_tep_list list && leb (length nonce) 8) (aware || not mandatory) e).0).0

-- so an answer that is not refused ends in Plain with the cause c exactly when the judge gives c for every option that it could have written
module _ (v : Seen) (area : List ℕ) (aware mandatory : Bool) (list nonce s : List ℕ) (c : Cause) where
  abbrev pub AllJudged : Type 0
  AllJudged = (t : ℕ) (r hand : Option SessionRecord) → is_listed t list ≡ true → record_listed r (t ∷ []) ≡ true → judge mandatory hand (option_with (answered aware t r nonce)) area ≡ judged.plain c

  pub answer_plain_exactly : ((n : ℕ) → (answer v area aware mandatory list nonce s).reply ≡ refused n → ⊥) → Every (λ r. length r.identifier ≡ 18) v.held
      → ((answer v area aware mandatory list nonce s).reply ≡ plain c) ↔ AllJudged
  unfolding answer answering answer_with record_listed
  answer_plain_exactly z whole = (λ e. answer_reason_is_judged v area aware mandatory list nonce s c e, back)
    where
      given : (refusal (
          (too_long area, 2)
          ∷ (not (terms_fit aware mandatory list nonce), 3)
          ∷ (not (is_idle (phase_of v.door.phase)), 4)
          ∷ (ltb (length s) (answer_length v aware nonce (answering v mandatory area list)), 5)
          ∷ []
          )
          ≡ none) × (answer v area aware mandatory list nonce s ≡ answer_with v aware mandatory (syn_option area) nonce s (answering v mandatory area list))
      given = allowed _ v.door s _ z

      fits : too_long area ≡ false
      fits = first_fails (too_long area) 2 _ given.0

      apt : terms_fit aware mandatory list nonce ≡ true
      apt = not_false _ (first_fails (not (terms_fit aware mandatory list nonce)) 3 _ (rest_fails (too_long area) 2 _ given.0))

      back : AllJudged → (answer v area aware mandatory list nonce s).reply ≡ plain c
      back all = go (answering v mandatory area list) refl
        where
          go : (a : Answering) → answering v mandatory area list ≡ a → (answer v area aware mandatory list nonce s).reply ≡ plain c
          go (plain_for n) q =
              let says : (answer v area aware mandatory list nonce s).reply ≡ plain n = ap (λ (x : Outcome). x.reply) (given.1 ∙ ap (answer_with v aware mandatory (syn_option area) nonce s) q) in
              let t = one_listed list (list_fits aware mandatory list nonce apt) in
              let same : n ≡ c = same_plain _ n c (answer_reason_is_judged v area aware mandatory list nonce s n says t.0 none none t.1 refl) (all t.0 none none t.1 refl) in
              says ∙ ap plain same
          go (with ch) q =
              let w = reasoned_with (answer_reason mandatory area) (choose_tep (syn_option area) list v.held) ch q in
              let l = chosen_listed (syn_option area) list v.held ch (chosen (syn_option area) list v.held ch w.1) in
              let r = record_at v.held ch.at in
              let p = sym (answer_agrees aware mandatory area list nonce v.held ch fits apt w.0 w.1 whole) ∙ all ch.tep r r l.0 l.1 in
              absurd (encrypt_not_plain _ _ _ _ c p)
