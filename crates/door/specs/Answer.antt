-- Answer (Idle): to a received SYN.
use Rattle.std.specs.Prelude.{ℕ, suc, ◌+◌, List, [], ◌∷◌, Bool, true, false, cond, not, ◌&&◌, ◌||◌, ltb, leb, eqb, length}
use Rattle.std.proofs.Math.Option.{Option, none, some}
use Rattle.wire.specs.Bytes.{pasted, same_bytes}
use Rattle.eno.specs.Area.{finding, syn_option}
use Rattle.eno.specs.Cause.{numbered, blame, first_cause}
use Rattle.eno.specs.Suboption.{Sent, suboptions, is_ill_formed}
use Rattle.eno.specs.Session.{expected_half}
use Rattle.eno.specs.Judge.{is_bad, is_resumption, half_of, named, once, teps_of, is_unreadable, is_missing, too_long, role_of, aware_of}
use Rattle.eno.specs.Option.{answered, option_with}
use Rattle.eno.specs.declared.SessionRecord.{SessionRecord}
use Rattle.eno.specs.declared.Cause.{Cause}
use Rattle.door.specs.Door.{phase_of, kept, hand_of, empty_hand, Seen}
use Rattle.door.specs.Record.{first_that, record_at}
use Rattle.door.specs.Outcome.{Outcome, written, plain, keep, remove, refusal, unless}
use Rattle.door.specs.Offer.{is_idle, terms_fit}
use Rattle.door.specs.declared.Door.{Door}

-- what A sent of the TEP t, if once and not bad
abbrev good : Option Sent → Option Sent
good none = none
good (some x) = cond (is_bad x) none (some x)

unfoldable pub candidate : List ℕ → ℕ → Option Sent
candidate o t = good (once (named t (teps_of o)))

abbrev is_some : Option Sent → Bool
is_some none = false
is_some (some x) = true

unfoldable pub is_candidate : List ℕ → ℕ → Bool
is_candidate o t = is_some (candidate o t)

-- the oldest record of the TEP t that expects the resumption half that A sent; the number of records where there is none
abbrev expecting : List ℕ → ℕ → List SessionRecord → Option Sent → ℕ
expecting o t held none = length held
expecting o t held (some x) =
    cond (is_resumption x) (first_that (λ r. eqb r.tep t && same_bytes (expected_half r) (half_of o x)) held) (length held)

unfoldable pub fitting_at : List ℕ → ℕ → List SessionRecord → ℕ
fitting_at o t held = expecting o t held (candidate o t)

-- the last of a list that passes a test
unfoldable pub last_that : (ℕ → Bool) → List ℕ → Option ℕ
last_that test [] = none
last_that test (t ∷ l) = elim (last_that test l) [ some u ↦ some u | none ↦ cond (test t) (some t) none ]

-- the TEP that is answered, and which record is resumed; the number of records where none is
pub record Choice : Type 0 where
  pub tep : ℕ
  pub at : ℕ

abbrev pub or_fresh : List ℕ → List ℕ → List SessionRecord → Option ℕ → Option Choice
or_fresh o list held (some t) = some (record { tep = t; at = fitting_at o t held })
or_fresh o list held none = elim (last_that (is_candidate o) list) [ some t ↦ some (record { tep = t; at = length held }) | none ↦ none ]

-- of the listed TEPs that A sent once and not bad, those that can be resumed come first; of these the last listed. If there are none, the last listed of all, fresh
unfoldable pub choose_tep : List ℕ → List ℕ → List SessionRecord → Option Choice
choose_tep o list held = or_fresh o list held (last_that (λ t. ltb (fitting_at o t held) (length held)) list)

-- why an answer is plain: 1 unreadable area; 2 no ENO option; 3 ill-formed; 4 equal b; 5 mandatory-aware and the other side's a = 0
unfoldable pub answer_reason : Bool → List ℕ → Option Cause
answer_reason mandatory area =
    let o = syn_option area in
    first_cause (
    (is_unreadable (finding area true), blame (finding area true))
    ∷ (is_missing (finding area true), numbered 2)
    ∷ (is_ill_formed (suboptions o), numbered 3)
    ∷ (eqb (role_of o) 1, numbered 4)
    ∷ (mandatory && eqb (aware_of o) 0, numbered 5)
    ∷ []
    )

-- what an answer comes to: plain with its reason, or the choice; 6 no valid TEP
pub data Answering : Type 0 where
  plain_for : Cause → Answering
  with : Choice → Answering

abbrev pub chosen_or : Option Choice → Answering
chosen_or none = plain_for (numbered 6)
chosen_or (some c) = with c

abbrev pub reason_or : Option Cause → Answering → Answering
reason_or (some n) a = plain_for n
reason_or none a = a

unfoldable pub answering : Seen → Bool → List ℕ → List ℕ → Answering
answering v mandatory area list = reason_or (answer_reason mandatory area) (chosen_or (choose_tep (syn_option area) list v.held))

-- a door in Plain; what was in hand is dropped
unfoldable pub plain_door : Cause → Door
plain_door n =
    record {
      phase = 5;
      mandatory = false;
      cause = n;
      role = 0;
      tep = 0;
      resumed = false;
      own_length = 0;
      peer_length = 0;
      own = kept [];
      peer = kept [];
      hand = empty_hand;
    }

-- a door that has answered, as host B, with the option o to the option p
unfoldable pub answered_door : List ℕ → List ℕ → Bool → ℕ → Option SessionRecord → Door
answered_door o p mandatory t hand =
    record {
      phase = 3;
      mandatory = mandatory;
      cause = numbered 0;
      role = 1;
      tep = elim hand [ none ↦ t | some r ↦ t + 0x80 ];
      resumed = elim hand [ none ↦ false | some r ↦ true ];
      own_length = length o;
      peer_length = length p;
      own = kept o;
      peer = kept p;
      hand = hand_of hand;
    }

unfoldable pub answer_with : Seen → Bool → Bool → List ℕ → List ℕ → List ℕ → Answering → Outcome
answer_with v aware mandatory p nonce s (plain_for n) = record { reply = plain n; buffer = s; door = plain_door n; effect = keep }
answer_with v aware mandatory p nonce s (with c) =
    let taken = record_at v.held c.at in
    let o = option_with (answered aware c.tep taken nonce) in
    record {
      reply = written (length o);
      buffer = pasted s 0 o;
      door = answered_door o p mandatory c.tep taken;
      effect = cond (ltb c.at (length v.held)) (remove c.at) keep;
    }

-- how many bytes an answer writes: none if it is plain
unfoldable pub answer_length : Seen → Bool → List ℕ → Answering → ℕ
answer_length v aware nonce (plain_for n) = 0
answer_length v aware nonce (with c) = length (option_with (answered aware c.tep (record_at v.held c.at) nonce))

unfoldable pub answer : Seen → (area : List ℕ) (aware mandatory : Bool) (list nonce s : List ℕ) → Outcome
answer v area aware mandatory list nonce s =
    let a = answering v mandatory area list in
    unless
    (refusal (
    (too_long area, 2)
    ∷ (not (terms_fit aware mandatory list nonce), 3)
    ∷ (not (is_idle (phase_of v.door.phase)), 4)
    ∷ (ltb (length s) (answer_length v aware nonce a), 5)
    ∷ []
    ))
    v.door s (answer_with v aware mandatory (syn_option area) nonce s a)
