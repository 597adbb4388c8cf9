-- What an answer writes is read back as host B's, with one TEP, and is judged as the answer says: fresh and resumed.
use Rattle.std.specs.Prelude.{ℕ, ◌+◌, ◌%◌, ◌≤◌, ◌<◌, ◌≡◌, refl, List, [], ◌∷◌, ◌++◌, Bool, cond, ◌&&◌, ◌||◌, take, drop}
use Rattle.std.proofs.Math.Path.{sym, ap, ap₂}
use Rattle.std.proofs.Common.{◌∙◌, append-nil, length-append, length-take, length-drop}
use Rattle.std.proofs.Math.Bool.{true, false, not}
use Rattle.std.proofs.Math.Option.{Option, none, some}
use native.Mathlib.Omega.{arith}
use borrow.Author.Tests.{eq-eqb, lt-ltb, le-ltb, lt-leb, leb-true}
use Rattle.std.proofs.Math.Dec.{ltb, leb, eqb}
use Rattle.std.proofs.Math.ListN.{length}
use Rattle.std.proofs.Math.Seq.{take_at}
use Rattle.wire.specs.Bytes.{part, same_bytes}
use Rattle.wire.specs.ByteLaws.{same_yes, same_eq}
use Rattle.eno.specs.Walk.{readable}
use Rattle.eno.specs.Area.{syn_option, most_area}
use Rattle.eno.specs.Suboption.{Sent, global, tep, suboptions}
use Rattle.eno.specs.Tep.{is_known}
use Rattle.eno.specs.Session.{sent_half, expected_half}
use Rattle.eno.specs.Judge.{is_fresh, is_bad, is_resumption, half_of, resumed, way_if, matches, encrypt, too_long, judge}
use Rattle.eno.specs.Option.{encode, encode_all, option_with, global_of, resumption_part, is_listed, known_once, is_tep_list, record_listed, answer_fits, answered}
use Rattle.eno.proofs.ReadBack.{option_alone}
use Rattle.eno.specs.Laws.Walk.{Every}
use Rattle.eno.specs.Laws.Suboption.{sent_as}
use Rattle.eno.proofs.Laws.Tep.{known_yes}
use Rattle.eno.specs.Laws.Asked.{IsTep}
use Rattle.eno.proofs.Laws.Asked.{and_true, all_teps, answer_may_be_asked}
use Rattle.eno.specs.declared.SessionRecord.{SessionRecord}
use Rattle.door.specs.Offer.{terms_fit}
use Rattle.door.specs.Answer.{answered_door}
use Rattle.door.specs.Laws.Choice.{SentWell}
use Rattle.door.specs.Laws.Judged.{Accepts}
use Rattle.door.proofs.Laws.Judged.{reads_data, reads_bare, agrees_fresh, agrees_resumed}
use Rattle.door.specs.declared.Door.{Door}

-- the terms of an answer: known TEPs, a nonce of at most 8 bytes
pub terms : (aware mandatory : Bool) (list nonce : List ℕ) → terms_fit aware mandatory list nonce ≡ true → Every IsTep list × (leb (length nonce) 8 ≡ true)
unfolding terms_fit is_tep_list
terms aware mandatory list nonce e =
    let a = and_true (is_tep_list list && leb (length nonce) 8) (aware || not mandatory) e in
    let b = and_true (is_tep_list list) (leb (length nonce) 8) a.0 in
    let c = and_true (leb 1 (length list) && leb (length list) 4) (known_once list) b.0 in
    (all_teps list c.1, b.1)

pub global_b : (aware : Bool) → (global_of 1 aware < 0x20) × (global_of 1 aware % 2 ≡ 1)
unfolding global_of
global_b true = (omega arith, refl)
global_b false = (omega arith, refl)

answer_fits_lem : (t : ℕ) (hand : Option SessionRecord) (nonce : List ℕ) → IsTep t → leb (length nonce) 8 ≡ true → record_listed hand (t ∷ []) ≡ true → answer_fits t hand nonce ≡ true
unfolding answer_fits
answer_fits_lem t hand nonce i n l = let k = sym (known_yes t i.0 i.1) in simp (k, n, l)

module _ (aware : Bool) (t : ℕ) (hand : Option SessionRecord) (nonce : List ℕ) (i : IsTep t) (n : leb (length nonce) 8 ≡ true) (l : record_listed hand (t ∷ []) ≡ true) where
  abbrev pub o : List ℕ
  o = option_with (answered aware t hand nonce)

  answer_at_most : length o ≤ most_area
  answer_at_most = (answer_may_be_asked aware t hand nonce (answer_fits_lem t hand nonce i n l)).short

  pub answer_short : too_long o ≡ false
  answer_short = le-ltb _ _ answer_at_most

  pub answer_alone : syn_option o ≡ o
  unfolding syn_option
  answer_alone = option_alone (answered aware t hand nonce) true answer_at_most

  pub answer_there : length o ≡ 0 → ⊥
  unfolding option_with
  answer_there e = omega arith

half_nine : (r : SessionRecord) → length r.identifier ≡ 18 → length (sent_half r) ≡ 9
unfolding sent_half part
half_nine r e = go (eqb r.role 0)
  where
    go : (b : Bool) → length (cond b (take 9 (drop 0 r.identifier)) (take 9 (drop 9 r.identifier))) ≡ 9
    go true = simp (length-take, length-drop) (omega arith)
    go false = simp (length-take, length-drop) (omega arith)

module _ (aware mandatory : Bool) (area nonce : List ℕ) (t : ℕ) (i : IsTep t) (n : leb (length nonce) 8 ≡ true) (long : too_long area ≡ false) (ok : Accepts mandatory area)
    (w : SentWell (syn_option area) t) where
  -- the answer's door, and that the judge agrees with it
  abbrev door_with : Option SessionRecord → Door
  door_with hand = answered_door (option_with (answered aware t hand nonce)) (syn_option area) mandatory t hand

  abbrev pub Agrees : Option SessionRecord → Type 0
  Agrees hand = judge mandatory hand (option_with (answered aware t hand nonce)) area
      ≡ encrypt 1 (door_with hand).tep (way_if (door_with hand).resumed) (syn_option area ++ option_with (answered aware t hand nonce))

  known : is_known t ≡ true
  known = sym (known_yes t i.0 i.1)

  pub fresh_agrees : Agrees none
  unfolding answered_door answered option_with encode_all encode record_listed is_fresh
  fresh_agrees =
      let g = global_b aware in
      agrees_fresh mandatory none (option_with (answered aware t none nonce)) area (answer_short aware t none nonce i n refl) (answer_alone aware t none nonce i n refl)
      (answer_there aware t none nonce i n refl) long ok (global_of 1 aware) (sent_as false t 4 0) (reads_bare _ (global_of 1 aware) t g.0 (omega arith) (omega arith)) g.1
      t (omega arith) known w.sent w.is_once w.not_bad (let h : t < 0x80 = omega arith in simp (lt-ltb _ _ h))

  module _ (r : SessionRecord) (e : r.tep ≡ t) (whole : length r.identifier ≡ 18) (resumption : is_resumption w.sent ≡ true)
      (expected : same_bytes (expected_half r) (half_of (syn_option area) w.sent) ≡ true) where
    abbrev sent_data : List ℕ
    sent_data = (sent_half r ++ nonce) ++ []

    abbrev own : List ℕ
    own = option_with (answered aware t (some r) nonce)

    abbrev x : Sent
    x = sent_as false (r.tep + 0x80) 4 (length sent_data)

    of_this : record_listed (some r) (t ∷ []) ≡ true
    unfolding record_listed is_listed
    of_this = simp (eq-eqb t r.tep (sym e))

    data_length : length sent_data ≡ 9 + length nonce
    data_length = ap length (append-nil (sent_half r ++ nonce)) ∙ (length-append (sent_half r) nonce ∙ ap (λ k. k + length nonce) (half_nine r whole))

    data_at_most : length sent_data ≤ 17
    data_at_most = let h : length nonce ≤ 8 = leb-true _ _ n in let d = data_length in omega arith

    own_reads : suboptions own ≡ readable (global (global_of 1 aware) ∷ tep x ∷ [])
    unfolding answered option_with encode_all encode resumption_part
    own_reads = reads_data _ (global_of 1 aware) (r.tep + 0x80) sent_data (global_b aware).0 (omega arith)

    own_half : half_of own x ≡ sent_half r
    unfolding half_of part answered option_with encode_all encode resumption_part
    own_half = ap (take 9) (append-nil (sent_half r ++ nonce)) ∙ take_at (sent_half r) nonce 9 (half_nine r whole)

    own_not_fresh : is_fresh x ≡ false
    unfolding is_fresh
    own_not_fresh =
        let d = data_length in
        let a : 0x80 ≤ r.tep + 0x80 = omega arith in
        let b : 9 ≤ length sent_data = omega arith in
        simp (le-ltb _ _ a, le-ltb _ _ b)

    own_not_bad : is_bad x ≡ false
    unfolding is_bad
    own_not_bad = let h = data_at_most in let b : length sent_data < 18 = omega arith in ap (λ f. not f && leb 18 (length sent_data)) own_not_fresh ∙ lt-leb _ _ b

    own_resumption : is_resumption x ≡ true
    unfolding is_resumption
    own_resumption = let h = data_at_most in let b : length sent_data < 18 = omega arith in ap (λ f. not f && ltb (length sent_data) 18) own_not_fresh ∙ lt-ltb _ _ b

    record_matches : matches (some r) t (half_of own x) (half_of (syn_option area) w.sent) ≡ true
    unfolding matches
    record_matches =
        let a : same_bytes (half_of own x) (sent_half r) ≡ true = ap (λ h. same_bytes h (sent_half r)) own_half ∙ sym (same_yes (sent_half r)) in
        let b : same_bytes (half_of (syn_option area) w.sent) (expected_half r) ≡ true =
        ap (λ h. same_bytes h (expected_half r)) (sym (same_eq _ _ expected)) ∙ sym (same_yes (expected_half r)) in
        let c : eqb r.tep t ≡ true = eq-eqb _ _ e in
        ap₂ (λ u v. u && v && same_bytes (half_of (syn_option area) w.sent) (expected_half r)) c a ∙ b

    pub resumed_agrees : Agrees (some r)
    unfolding answered_door
    resumed_agrees =
        agrees_resumed mandatory (some r) own area (answer_short aware t (some r) nonce i n of_this) (answer_alone aware t (some r) nonce i n of_this)
        (answer_there aware t (some r) nonce i n of_this) long ok (global_of 1 aware) x own_reads (global_b aware).1 t (omega arith) known w.sent w.is_once w.not_bad
        own_resumption own_not_bad own_not_fresh resumption record_matches
        ∙ ap (λ k. encrypt 1 (k + 0x80) resumed (syn_option area ++ own)) e
