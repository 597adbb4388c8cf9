-- What a result says of a door, and that the judge says resumed only with a record in hand.
use Rattle.std.proofs.Math.Path.{◌≡◌, refl}
use Rattle.std.proofs.Common.{sym, ap, ◌∙◌, subst, true≢false, arith}
use Rattle.std.specs.Prelude.{Bool, cond, not, ◌&&◌, ◌||◌, ℕ, length, replicate}
use Rattle.std.proofs.Math.Bool.{true, false}
use Rattle.std.proofs.Math.Option.{Option, none, some}
use mathlib.Core.List.{List, [], ◌∷◌}
use Rattle.std.proofs.Math.Dec.{ltb}
use Rattle.eno.specs.declared.Cause.{Cause}
use Rattle.wire.specs.Bytes.{pasted}
use Rattle.eno.specs.Tep.{is_known}
use Rattle.eno.specs.Session.{in_hand}
use Rattle.eno.specs.Judge as judged
use Rattle.eno.specs.Judge.{Way, fresh, resumed, way_if, is_resumed, of_b, first_of, Judged, encrypt, judge, matches, Sides, named, once, teps_of, way_of, way_of_both, validity, Negotiated, negotiated_by, or_else, last_valid, agreed, negotiate}
use Rattle.eno.specs.Laws.Walk.{Every}
use Rattle.eno.specs.declared.SessionRecord.{SessionRecord}
use Rattle.door.specs.Door.{phase_of, transcript_of}
use Rattle.door.specs.Outcome.{plain, encrypted, Outcome, keep, refusal, unless}
use Rattle.door.specs.Receive as r
use Rattle.door.specs.Receive.{secret_of, is_plain}
use Rattle.door.specs.Calls.{result}
use Rattle.door.specs.declared.Door.{Door}
use Rattle.unit.specs.Resumption.{is_open_now}
use Rattle.eno.specs.Suboption.{Sent, name}
use Rattle.unit.specs.Results.{Names}

-- no record in hand: not resumed
NotResumed : Judged → Type 0
NotResumed (judged.refuse n) = Unit {0}
NotResumed (judged.plain n) = Unit {0}
NotResumed (encrypt role byte way t) = is_resumed way ≡ false

FreshWay : Option Way → Type 0
FreshWay none = Unit {0}
FreshWay (some w) = is_resumed w ≡ false

FreshTep : Option Negotiated → Type 0
FreshTep none = Unit {0}
FreshTep (some n) = is_resumed n.way ≡ false

either_way : {X : Type 0} (P : X → Type 0) (b : Bool) (x y : X) → P x → P y → P (cond b x y)
either_way P true x y p q = p
either_way P false x y p q = q

no_way : FreshWay none
unfolding FreshWay
no_way = tt

fresh_way : FreshWay (some fresh)
unfolding FreshWay
fresh_way = refl

not_plain : (n : Cause) → NotResumed (judged.plain n)
unfolding NotResumed
not_plain n = tt

not_refused : (n : ℕ) → NotResumed (judged.refuse n)
unfolding NotResumed
not_refused n = tt

module _ (own peer : List ℕ) (is_b : Bool) where
  abbrev bare : Sides
  bare = record { hand = none; own = own; peer = peer; own_is_b = is_b }

  way_fresh : (t : ℕ) (mine theirs : Sent) → FreshWay (way_of bare t mine theirs)
  unfolding way_of matches
  way_fresh t mine theirs = go (judged.is_bad mine || judged.is_bad theirs) (judged.is_fresh (judged.of_b is_b mine theirs)) (judged.is_resumption mine) (judged.is_resumption theirs)
    where
      go : (b c x y : Bool) → FreshWay (cond b none (cond c (some fresh) (cond (x && y && false) (some resumed) none)))
      go true c x y = no_way
      go false true x y = fresh_way
      go false false true true = no_way
      go false false true false = no_way
      go false false false y = no_way

  both_fresh : (t : ℕ) (mine theirs : Option Sent) → FreshWay (way_of_both bare t mine theirs)
  unfolding way_of_both
  both_fresh t none theirs = no_way
  both_fresh t (some mine) none = no_way
  both_fresh t (some mine) (some theirs) = way_fresh t mine theirs

  valid_fresh : (t : ℕ) → FreshWay (validity bare t)
  unfolding validity
  valid_fresh t = either_way FreshWay (is_known t) (way_of_both bare t (once (named t (teps_of own))) (once (named t (teps_of peer)))) none (both_fresh t _ _) no_way

  or_fresh_lem : (x y : Option Negotiated) → FreshTep x → FreshTep y → FreshTep (or_else x y)
  or_fresh_lem none y p q = q
  or_fresh_lem (some n) y p q = p

  by_fresh : (x : Sent) (w : Option Way) → FreshWay w → FreshTep (negotiated_by x w)
  unfolding FreshWay FreshTep
  by_fresh x none p = tt
  by_fresh x (some w) p = p

  last_fresh_lem : (l : List Sent) → FreshTep (last_valid (validity bare) l)
  unfolding last_valid FreshTep
  last_fresh_lem [] = tt
  last_fresh_lem (x ∷ l) = or_fresh_lem (last_valid (validity bare) l) (negotiated_by x (validity bare (name x))) (last_fresh_lem l) (by_fresh x (validity bare (name x)) (valid_fresh (name x)))

  agreed_fresh : (role : ℕ) (n : Option Negotiated) → FreshTep n → NotResumed (agreed role bare n)
  unfolding agreed FreshTep NotResumed
  agreed_fresh role none p = tt
  agreed_fresh role (some n) p = p

  negotiate_fresh : (role : ℕ) → NotResumed (negotiate role bare)
  unfolding negotiate
  negotiate_fresh role = agreed_fresh role _ (last_fresh_lem _)

first_not : (l : List (Bool × Judged)) (last : Judged) → Every (λ (x : Bool × Judged). NotResumed x.1) l → NotResumed last → NotResumed (first_of l last)
unfolding first_of
first_not [] last z p = p
first_not (x ∷ l) last z p = either_way NotResumed x.0 x.1 (first_of l last) z.0 (first_not l last z.1 p)

judge_fresh : (mandatory : Bool) (own area : List ℕ) → NotResumed (judge mandatory none own area)
unfolding judge
judge_fresh mandatory own area = first_not _ _ (not_refused 2, (not_plain _, (not_plain _, (not_plain _, (not_plain _, (not_plain _, (not_plain _, tt))))))) (negotiate_fresh _ _ _ _)

not_resumed : (j : Judged) (role byte : ℕ) (way : Way) (t : List ℕ) → NotResumed j → j ≡ encrypt role byte way t → is_resumed way ≡ false
unfolding NotResumed
not_resumed j role byte way t n e = subst NotResumed e n

-- the judge says resumed only with a record in hand
pub resumed_by_record : (mandatory : Bool) (hand : Option SessionRecord) (own area : List ℕ) (role byte : ℕ) (way : Way) (t : List ℕ)
    → judge mandatory hand own area ≡ encrypt role byte way t → is_resumed way ≡ true → (x : SessionRecord) × (hand ≡ some x)
resumed_by_record mandatory (some x) own area role byte way t e w = (x, refl)
resumed_by_record mandatory none own area role byte way t e w = absurd (true≢false (sym w ∙ not_resumed _ role byte way t (judge_fresh mandatory own area) e))

module _ (e : Door) (s : List ℕ) where
  abbrev named_as : Bool → Outcome
  named_as b =
      record {
        reply = cond b (encrypted e.role e.tep (way_if e.resumed) (length (transcript_of e)) (secret_of e)) (plain e.cause);
        buffer = cond b (pasted s 0 (transcript_of e)) s;
        door = e;
        effect = keep;
      }

  abbrev named_if : Bool → Bool → Bool → Outcome
  named_if b c f = unless (refusal ((not (b || c), 4) ∷ (b && f, 5) ∷ [])) e s (named_as b)

  pub result_names : (role byte : ℕ) (way : Way) (n : ℕ) (secret : List ℕ) → (r.result e s).reply ≡ encrypted role byte way n secret → Names e s role byte way n secret
  unfolding r.result refusal unless
  result_names role byte way n secret q = go (is_open_now e) (is_plain (phase_of e.phase)) (ltb (length s) (length (transcript_of e))) refl refl refl q
    where
      go : (b c f : Bool) → is_open_now e ≡ b → is_plain (phase_of e.phase) ≡ c → ltb (length s) (length (transcript_of e)) ≡ f → (named_if b c f).reply ≡ encrypted role byte way n secret → Names e s role byte way n secret
      go true c false x y z p =
          record { in_open = x; role_is = cc; byte_is = cc; way_is = cc; length_is = cc; secret_is = cc; buffer_is = rw (x, z) }
      go true c true x y z p = let w : ◌≡◌ {A = ℕ} 0 1 = cc in absurd (omega arith)
      go false true f x y z p = let w : ◌≡◌ {A = ℕ} 0 1 = cc in absurd (omega arith)
      go false false f x y z p = let w : ◌≡◌ {A = ℕ} 0 1 = cc in absurd (omega arith)

  -- one that gives a reason
  pub result_plain : (n : Cause) → (r.result e s).reply ≡ plain n → (is_plain (phase_of e.phase) ≡ true) × (e.cause ≡ n) × ((r.result e s).buffer ≡ s)
  unfolding r.result refusal unless
  result_plain n q = go (is_open_now e) (is_plain (phase_of e.phase)) (ltb (length s) (length (transcript_of e))) refl refl q
    where
      go : (b c f : Bool) → is_open_now e ≡ b → is_plain (phase_of e.phase) ≡ c → (named_if b c f).reply ≡ plain n
          → (is_plain (phase_of e.phase) ≡ true) × (e.cause ≡ n) × ((r.result e s).buffer ≡ s)
      go true c false x y p = let w : ◌≡◌ {A = ℕ} 0 1 = cc in absurd (omega arith)
      go true c true x y p = let w : ◌≡◌ {A = ℕ} 0 1 = cc in absurd (omega arith)
      go false true f x y p = (y, cc, rw (x, y))
      go false false f x y p = let w : ◌≡◌ {A = ℕ} 0 1 = cc in absurd (omega arith)

-- the secret that it gives: that of the record in hand, or zeros
pub resumed_secret : (e : Door) (x : SessionRecord) → e.resumed ≡ true → in_hand e.hand ≡ some x → secret_of e ≡ x.secret
unfolding secret_of in_hand
resumed_secret e x t i = rw t (go e.hand.held i)
  where
    go : (b : Bool) → cond b (some e.hand.session) none ≡ some x → e.hand.session.secret ≡ x.secret
    go true q = let z : e.hand.session ≡ x = cc in ap (λ (y : SessionRecord). y.secret) z
    go false q = let z : ◌≡◌ {A = ℕ} 0 1 = cc in absurd (omega arith)

pub fresh_secret : (e : Door) → e.resumed ≡ false → secret_of e ≡ replicate 32 0
unfolding secret_of
fresh_secret e f = rw f
