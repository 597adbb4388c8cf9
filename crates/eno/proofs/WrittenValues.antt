-- What is written is read back to the values: from the bytes that an accepted offer or answer left in the lent buffer, b, a, the TEPs in list order, the half and the nonce.
use Rattle.std.specs.Prelude.{ℕ, suc, ◌+◌, ◌-◌, ◌/◌, ◌%◌, ◌≤◌, ◌<◌, Bool, cond, not, ◌&&◌, ◌||◌, ltb, eqb, length, take, drop}
use Rattle.std.proofs.Math.Path.{◌≡◌, refl, sym, ap, ap₂, subst}
use Rattle.std.proofs.Common.{◌∙◌, true≢false, length-append, length-take, length-drop, take-take}
use mathlib.Core.List.{List, [], ◌∷◌, ◌++◌, map, append-nil, head-eq_of_cons-eq, tail-eq_of_cons-eq}
use Rattle.std.proofs.Math.Bool.{true, false}
use Rattle.std.proofs.lemmas.Bool.{false≢true}
use Rattle.std.proofs.Math.Option.{Option, none, some}
use native.Mathlib.Omega.{arith}
use borrow.Author.Tests.{eqb-true, lt-ltb, le-ltb, ltb-false}
use Rattle.std.proofs.Math.Dec.{leb}
use Rattle.std.proofs.Math.ListN.{get_or}
use Rattle.std.proofs.Math.Seq.{take_at}
use Rattle.wire.specs.Bytes.{part, pasted}
use Rattle.wire.specs.ByteLaws.{length_part, part_pasted}
use Rattle.eno.specs.Walk.{item, Reading, readable, faulty, each, listed, items_of}
use Rattle.eno.specs.Area.{syn_option}
use Rattle.eno.specs.Suboption.{Sent, Suboption, global, tep, suboption_at, suboptions, is_ill_formed, globals, global_byte, role_bit, aware_bit, teps, name}
use Rattle.eno.specs.Session.{sent_half}
use Rattle.eno.specs.Tep.{is_known}
use Rattle.eno.specs.Judge.{is_fresh, is_resumption, half_of, teps_of, role_of, aware_of}
use Rattle.eno.specs.Option.{Content, global_with, tep_with, option_with, global_of, global_part, fresh_part, resumption_part, without, is_listed, fresh_teps, last_part, offered, known_once, is_tep_list, record_listed, offer_fits, wrote, refused_with, Written, written_as, write_option, write_offer, write_answer}
use Rattle.eno.specs.Content.{content_of, contents}
use Rattle.eno.proofs.ReadBack.{option_among, option_alone, listed_back}
use Rattle.eno.specs.Laws.Walk.{Every}
use Rattle.eno.proofs.Laws.Walk.{every_item}
use Rattle.eno.specs.Laws.Suboption.{SuboptionCase, a_global, a_bare, to_end, a_counted}
use Rattle.eno.proofs.Laws.Suboption.{suboption_case}
use Rattle.eno.specs.Laws.Asked.{IsTep, OfTep, Fits}
use Rattle.eno.proofs.Laws.Asked.{and_true, fits, fresh_teps_lem, offer_may_be_asked, answer_is_offer}
use Rattle.eno.specs.declared.SessionRecord.{SessionRecord}
use Rattle.eno.specs.WrittenValues.{AllFresh, OneResumed, TepsAre, Says, ReadBack, IsWhole}

-- globals and TEPs of a list of suboptions by their values
content_globals : List Content → List ℕ
content_globals [] = []
content_globals (global_with x ∷ l) = x ∷ content_globals l
content_globals (tep_with c x d ∷ l) = content_globals l

content_teps : List Content → List Content
content_teps [] = []
content_teps (global_with x ∷ l) = content_teps l
content_teps (tep_with c x d ∷ l) = tep_with c x d ∷ content_teps l

module _ (o : List ℕ) where
  -- a TEP by its value
  abbrev valued : Sent → Content
  valued x = tep_with x.counted x.byte (part x.start x.len o)

  globals_of : (l : List Suboption) → globals l ≡ content_globals (map (content_of o) l)
  unfolding globals content_globals content_of
  globals_of [] = refl
  globals_of (global x ∷ l) = ap (λ m. x ∷ m) (globals_of l)
  globals_of (tep x ∷ l) = globals_of l

  teps_of_lem : (l : List Suboption) → map valued (teps l) ≡ content_teps (map (content_of o) l)
  unfolding teps content_teps content_of
  teps_of_lem [] = refl
  teps_of_lem (global x ∷ l) = teps_of_lem l
  teps_of_lem (tep x ∷ l) = ap (λ m. valued x ∷ m) (teps_of_lem l)

fresh_globals : (l : List ℕ) (m : List Content) → content_globals (fresh_part l ++ m) ≡ content_globals m
unfolding content_globals fresh_part
fresh_globals [] m = refl
fresh_globals (t ∷ l) m = fresh_globals l m

last_globals : (hand : Option SessionRecord) (nonce : List ℕ) → content_globals (last_part hand nonce) ≡ []
unfolding content_globals last_part resumption_part
last_globals none nonce = refl
last_globals (some r) nonce = refl

first_global : (g : ℕ) (m : List Content) → content_globals m ≡ [] → get_or (content_globals (global_part g ++ m)) 0 0 ≡ g
unfolding content_globals global_part
first_global g m e = go (eqb g 0) refl
  where
    go : (b : Bool) → eqb g 0 ≡ b → get_or (content_globals (cond b [] (global_with g ∷ []) ++ m)) 0 0 ≡ g
    go true q = ap (λ l. get_or l 0 0) e ∙ sym (eqb-true g 0 q)
    go false q = refl

fresh_contents : (l : List ℕ) (m : List Content) → content_teps (fresh_part l ++ m) ≡ fresh_part l ++ content_teps m
unfolding content_teps fresh_part
fresh_contents [] m = refl
fresh_contents (t ∷ l) m = ap (λ k. tep_with false t [] ∷ k) (fresh_contents l m)

last_contents : (hand : Option SessionRecord) (nonce : List ℕ) → content_teps (last_part hand nonce) ≡ last_part hand nonce
unfolding content_teps last_part resumption_part
last_contents none nonce = refl
last_contents (some r) nonce = refl

global_no_tep : (g : ℕ) (m : List Content) → content_teps (global_part g ++ m) ≡ content_teps m
unfolding content_teps global_part
global_no_tep g m = go (eqb g 0)
  where
    go : (b : Bool) → content_teps (cond b [] (global_with g ∷ []) ++ m) ≡ content_teps m
    go true = refl
    go false = refl

-- a TEP's data end within the option
abbrev Within : List ℕ → Sent → Type 0
Within o x = x.start + x.len ≤ length o

abbrev TepWithin : List ℕ → Suboption → Type 0
TepWithin o (global b) = Unit {0}
TepWithin o (tep x) = Within o x

tep_within : (o : List ℕ) (i : ℕ) (x : Suboption) (j : ℕ) → suboption_at o i ≡ item x j → TepWithin o x
tep_within o i x j e = go (suboption_case o i x j e)
  where
    go : SuboptionCase o i x j → TepWithin o x
    go (a_global h g ex ej) = rw ex tt
    go (a_bare h g t ex ej) = rw ex (omega arith)
    go (to_end h r ex ej) = rw ex (omega arith)
    go (a_counted n low high y en fits ex ej) = rw ex (omega arith)

all_within : (o : List ℕ) (l : List Suboption) → Every (TepWithin o) l → Every (Within o) (teps l)
unfolding teps
all_within o [] h = tt
all_within o (global b ∷ l) h = all_within o l h.1
all_within o (tep x ∷ l) h = (h.0, all_within o l h.1)

teps_within : (o : List ℕ) → Every (Within o) (teps_of o)
unfolding teps_of suboptions items_of
teps_within o = all_within o (listed (suboptions o)) (every_item (TepWithin o) (suboption_at o) (tep_within o) (suc (length o - 2)) 2)

-- TEPs that are read where fresh ones were asked, and what follows them
record FreshThen (o : List ℕ) (sent : List Sent) (list : List ℕ) (m : List Content) : Type 0 where
  begin : List Sent
  rest : List Sent
  sent_is : sent ≡ begin ++ rest
  begin_is : AllFresh begin list
  rest_is : map (valued o) rest ≡ m
  rest_within : Every (Within o) rest

module _ (o : List ℕ) (m : List Content) where
  fresh_then : (list : List ℕ) (sent : List Sent) → Every IsTep list → Every (Within o) sent → map (valued o) sent ≡ fresh_part list ++ m → FreshThen o sent list m
  unfolding fresh_part is_fresh
  fresh_then [] sent i w e = record { begin = []; rest = sent; sent_is = refl; begin_is = record { names = refl; are_fresh = tt }; rest_is = e; rest_within = w }
  fresh_then (t ∷ l) [] i w e = let z : ◌≡◌ {A = ℕ} 0 1 = cc in absurd (omega arith)
  fresh_then (t ∷ l) (x ∷ sent) i w e =
      let f = fresh_then l sent i.1 w.1 (tail-eq_of_cons-eq e) in
      let h : valued o x ≡ tep_with false t [] = head-eq_of_cons-eq e in
      let byte : x.byte ≡ t = cc in
      let n : name x ≡ t = omega arith in
      let low : x.byte < 0x80 = omega arith in
      record {
        begin = x ∷ f.begin;
        rest = f.rest;
        sent_is = ap (λ k. x ∷ k) f.sent_is;
        begin_is = record { names = ap₂ (λ a k. a ∷ k) n f.begin_is.names; are_fresh = (simp (lt-ltb _ _ low), f.begin_is.are_fresh) };
        rest_is = f.rest_is;
        rest_within = f.rest_within;
      }

-- a list in which t stands once, without t
record Without (t : ℕ) (list : List ℕ) : Type 0 where
  before : List ℕ
  behind : List ℕ
  list_is : list ≡ before ++ t ∷ behind
  rest_is : without t list ≡ before ++ behind

without_absent : (t : ℕ) (l : List ℕ) → is_listed t l ≡ false → without t l ≡ l
unfolding without is_listed
without_absent t [] e = refl
without_absent t (x ∷ l) e = go (eqb x t) e (without_absent t l)
  where
    go : (b : Bool) → b || is_listed t l ≡ false → (is_listed t l ≡ false → without t l ≡ l) → cond b (without t l) (x ∷ without t l) ≡ x ∷ l
    go true e rest = absurd (true≢false e)
    go false e rest = ap (λ m. x ∷ m) (rest e)

not_true : (b : Bool) → not b ≡ true → b ≡ false
not_true true e = absurd (false≢true e)
not_true false e = refl

without_one : (t : ℕ) (l : List ℕ) → known_once l ≡ true → is_listed t l ≡ true → Without t l
unfolding without is_listed known_once
without_one t [] k e = absurd (false≢true e)
without_one t (x ∷ l) k e =
    let a = and_true (is_known x && not (is_listed x l)) (known_once l) k in
    go (eqb x t) refl e (not_true (is_listed x l) (and_true (is_known x) (not (is_listed x l)) a.0).1) (without_one t l a.1)
  where
    go : (b : Bool) → eqb x t ≡ b → b || is_listed t l ≡ true → is_listed x l ≡ false → (is_listed t l ≡ true → Without t l) → Without t (x ∷ l)
    go true q e n rest =
        let same : x ≡ t = eqb-true x t q in
        let absent : is_listed t l ≡ false = ap (λ y. is_listed y l) (sym same) ∙ n in
        record { before = []; behind = l; list_is = ap (λ y. y ∷ l) same; rest_is = simp q (without_absent t l absent) }
    go false q e n rest =
        let w = rest e in
        record { before = x ∷ w.before; behind = w.behind; list_is = ap (λ m. x ∷ m) w.list_is; rest_is = simp q (ap (λ m. x ∷ m) w.rest_is) }

half_nine : (r : SessionRecord) → length r.identifier ≡ 18 → length (sent_half r) ≡ 9
unfolding sent_half part
half_nine r e = go (eqb r.role 0)
  where
    go : (b : Bool) → length (cond b (take 9 (drop 0 r.identifier)) (take 9 (drop 9 r.identifier))) ≡ 9
    go true = simp (length-take, length-drop) (omega arith)
    go false = simp (length-take, length-drop) (omega arith)

-- what is read where resumption was asked
module _ (o : List ℕ) (r : SessionRecord) (nonce : List ℕ) (known : IsTep r.tep) (eight : length nonce ≤ 8) (whole : length r.identifier ≡ 18)
    (x : Sent) (within : Within o x) (e : valued o x ≡ tep_with false (r.tep + 0x80) (sent_half r ++ nonce)) where
  data_is : part x.start x.len o ≡ sent_half r ++ nonce
  data_is = cc

  byte_is : x.byte ≡ r.tep + 0x80
  byte_is = cc

  data_length : x.len ≡ 9 + length nonce
  data_length =
      sym (length_part x.start x.len o within) ∙ (ap length data_is ∙ (length-append (sent_half r) nonce ∙ ap (λ k. k + length nonce) (half_nine r whole)))

  is_resumption_lem : is_resumption x ≡ true
  unfolding is_resumption is_fresh
  is_resumption_lem =
      let b = byte_is in
      let n = data_length in
      let high : 0x80 ≤ x.byte = omega arith in
      let long : 9 ≤ x.len = omega arith in
      let short : x.len < 18 = omega arith in
      simp (le-ltb _ _ high, le-ltb _ _ long, lt-ltb _ _ short)

  half_is : half_of o x ≡ sent_half r
  unfolding half_of part
  half_is =
      let n = data_length in
      let long : 9 ≤ x.len = omega arith in
      sym (take-take 9 x.len (drop x.start o) long) ∙ (ap (take 9) data_is ∙ take_at (sent_half r) nonce 9 (half_nine r whole))

  name_is : name x ≡ r.tep
  name_is = let b = byte_is in omega arith

module _ (o : List ℕ) (sent : List Sent) (list nonce : List ℕ) (known : known_once list ≡ true) (eight : length nonce ≤ 8) where
  all_fresh : FreshThen o sent list [] → AllFresh sent list
  all_fresh f = go f.rest f.sent_is f.rest_is
    where
      go : (rest : List Sent) → sent ≡ f.begin ++ rest → map (valued o) rest ≡ [] → AllFresh sent list
      go [] q e = subst (λ l. AllFresh l list) (sym (q ∙ append-nil f.begin)) f.begin_is
      go (x ∷ l) q e = let z : ◌≡◌ {A = ℕ} 0 1 = cc in absurd (omega arith)

  one_resumed : (r : SessionRecord) → IsTep r.tep → is_listed r.tep list ≡ true → length r.identifier ≡ 18
      → FreshThen o sent (without r.tep list) (tep_with false (r.tep + 0x80) (sent_half r ++ nonce) ∷ []) → OneResumed o sent list r nonce
  one_resumed r i l whole f = go f.rest f.sent_is f.rest_is f.rest_within
    where
      go : (rest : List Sent) → sent ≡ f.begin ++ rest → map (valued o) rest ≡ tep_with false (r.tep + 0x80) (sent_half r ++ nonce) ∷ [] → Every (Within o) rest → OneResumed o sent list r nonce
      go [] q e w = let z : ◌≡◌ {A = ℕ} 0 1 = cc in absurd (omega arith)
      go (x ∷ y ∷ k) q e w = let z = ap length e in absurd (omega arith)
      go (x ∷ []) q e w =
          let v : valued o x ≡ tep_with false (r.tep + 0x80) (sent_half r ++ nonce) = head-eq_of_cons-eq e in
          let s = without_one r.tep list known l in
          record {
            listed_before = s.before;
            listed_behind = s.behind;
            list_is = s.list_is;
            others = f.begin;
            resumed = x;
            sent_is = q;
            others_are = subst (AllFresh f.begin) s.rest_is f.begin_is;
            resumed_name = name_is o r nonce i eight whole x w.0 v;
            resumption = is_resumption_lem o r nonce i eight whole x w.0 v;
            half = half_is o r nonce i eight whole x w.0 v;
            half_and_nonce = data_is o r nonce i eight whole x w.0 v;
          }

  teps_say : (hand : Option SessionRecord) → OfTep hand → record_listed hand list ≡ true → IsWhole hand → FreshThen o sent (fresh_teps hand list) (last_part hand nonce) → TepsAre o sent list hand nonce
  unfolding fresh_teps last_part resumption_part record_listed
  teps_say none i l whole f = all_fresh f
  teps_say (some r) i l whole f = one_resumed r i l whole f

-- b is the global byte's bit 0, a its bit 1
global_b : (b : ℕ) (a : Bool) → b ≤ 1 → (global_of b a % 2 ≡ b) × (global_of b a / 2 % 2 ≡ cond a 1 0)
unfolding global_of
global_b b true h = (omega arith, omega arith)
global_b b false h = (omega arith, omega arith)

global_weights : (b : ℕ) (a : Bool) → global_of b a ≡ b + cond a 2 0
unfolding global_of
global_weights b a = refl

-- the option of an accepted offer says what was asked
module _ (b : ℕ) (aware : Bool) (list : List ℕ) (hand : Option SessionRecord) (nonce : List ℕ) (fit : offer_fits b list hand nonce ≡ true) (whole : IsWhole hand) where
  abbrev asked : List Content
  asked = offered b aware list hand nonce

  abbrev o : List ℕ
  o = option_with asked

  abbrev behind : List Content
  behind = fresh_part (fresh_teps hand list) ++ last_part hand nonce

  abbrev g : ℕ
  g = global_of b aware

  has : Fits b list hand nonce
  has = fits b list hand nonce fit

  once_listed : (known_once list ≡ true) × (record_listed hand list ≡ true)
  unfolding offer_fits is_tep_list
  once_listed =
      let h = and_true (leb b 1 && is_tep_list list && leb (length nonce) 8) (record_listed hand list) fit in
      let i = and_true (leb b 1 && is_tep_list list) (leb (length nonce) 8) h.0 in
      let j = and_true (leb b 1) (is_tep_list list) i.0 in
      ((and_true (leb 1 (length list) && leb (length list) 4) (known_once list) j.1).1, h.1)

  -- the suboptions, by their values
  record Listed : Type 0 where
    all : List Suboption
    reads : suboptions o ≡ readable all
    values : map (content_of o) all ≡ asked

  all_listed : Listed
  unfolding contents
  all_listed = go (suboptions o) refl (listed_back asked (offer_may_be_asked b aware list hand nonce fit))
    where
      go : (r : Reading (Unit {0}) Suboption) → suboptions o ≡ r → each (content_of o) r ≡ readable asked → Listed
      go (readable l) q e = record { all = l; reads = q; values = cc }
      go (faulty f) q e = let z : ◌≡◌ {A = ℕ} 0 1 = cc in absurd (omega arith)

  global_is : global_byte (listed (suboptions o)) ≡ g
  unfolding global_byte offered
  global_is =
      ap (λ r. get_or (globals (listed r)) 0 0) all_listed.reads
      ∙ (ap (λ l. get_or l 0 0) (globals_of o all_listed.all ∙ ap content_globals all_listed.values)
      ∙ first_global g behind (fresh_globals (fresh_teps hand list) (last_part hand nonce) ∙ last_globals hand nonce))

  role_is : role_of o ≡ b
  unfolding role_of role_bit
  role_is = ap (λ k. k % 2) global_is ∙ (global_b b aware has.one).0

  aware_is : aware_of o ≡ cond aware 1 0
  unfolding aware_of aware_bit
  aware_is = ap (λ k. k / 2 % 2) global_is ∙ (global_b b aware has.one).1

  well : is_ill_formed (suboptions o) ≡ false
  unfolding is_ill_formed
  well = ap is_ill_formed all_listed.reads

  teps_values : map (valued o) (teps_of o) ≡ fresh_part (fresh_teps hand list) ++ last_part hand nonce
  unfolding teps_of offered
  teps_values =
      ap (λ r. map (valued o) (teps (listed r))) all_listed.reads
      ∙ (teps_of_lem o all_listed.all ∙ (ap content_teps all_listed.values ∙ (global_no_tep g behind
      ∙ (fresh_contents (fresh_teps hand list) (last_part hand nonce) ∙ ap (λ m. fresh_part (fresh_teps hand list) ++ m) (last_contents hand nonce)))))

  fresh_first : FreshThen o (teps_of o) (fresh_teps hand list) (last_part hand nonce)
  fresh_first = fresh_then o (last_part hand nonce) (fresh_teps hand list) (teps_of o) (fresh_teps_lem hand list has.are_teps) (teps_within o) teps_values

  says : Says o b aware list hand nonce
  says =
      record {
        well_formed_lem = well;
        global_byte_lem = global_is ∙ global_weights b aware;
        role = role_is;
        aware_bit_lem = aware_is;
        teps_are = teps_say o (teps_of o) list nonce once_listed.0 has.eight hand has.of_these once_listed.1 whole fresh_first;
      }

  read_back : ReadBack o b aware list hand nonce
  unfolding syn_option option_with
  read_back =
      record {
        alone = subst (λ x. Says x b aware list hand nonce) (sym (option_alone asked true (offer_may_be_asked b aware list hand nonce fit).short)) says;
        among = λ area before behind short p q a. subst (λ x. Says x b aware list hand nonce) (sym (option_among asked area before behind true short p q a)) says;
      }

first_bytes : (s v : List ℕ) → length v ≤ length s → take (length v) (pasted s 0 v) ≡ v
unfolding part
first_bytes s v h = part_pasted s 0 v (omega arith)

-- an accepted writing: the arguments fit, and the first n bytes of the buffer are the option
record Accepted (fits : Bool) (asked : List Content) (n : ℕ) (buffer : List ℕ) : Type 0 where
  fit : fits ≡ true
  bytes : take n buffer ≡ option_with asked

accepted : (f : Bool) (asked : List Content) (s : List ℕ) (n : ℕ) → (write_option f asked s).says ≡ wrote n → Accepted f asked n (write_option f asked s).buffer
unfolding write_option
accepted false asked s n e = let z : ◌≡◌ {A = ℕ} 0 1 = cc in absurd (omega arith)
accepted true asked s n e = go (ltb (length s) (length (option_with asked))) refl e
  where
    go : (c : Bool) → ltb (length s) (length (option_with asked)) ≡ c
        → (cond c (written_as (refused_with 5) s) (written_as (wrote (length (option_with asked))) (pasted s 0 (option_with asked)))).says ≡ wrote n
        → Accepted true asked n (cond c (written_as (refused_with 5) s) (written_as (wrote (length (option_with asked))) (pasted s 0 (option_with asked)))).buffer
    go true q e = let z : ◌≡◌ {A = ℕ} 0 1 = cc in absurd (omega arith)
    go false q e =
        let k : length (option_with asked) ≡ n = cc in
        record { fit = refl; bytes = ap (λ m. take m (pasted s 0 (option_with asked))) (sym k) ∙ first_bytes s (option_with asked) (ltb-false _ _ q) }

-- an accepted offer: the first n bytes of the lent buffer are read back to its values
pub offer_reads_back : (b : ℕ) (aware : Bool) (list : List ℕ) (hand : Option SessionRecord) (nonce s : List ℕ) (n : ℕ) → IsWhole hand → (write_offer b aware list hand nonce s).says ≡ wrote n
    → ReadBack (take n (write_offer b aware list hand nonce s).buffer) b aware list hand nonce
unfolding write_offer
offer_reads_back b aware list hand nonce s n whole e =
    let a = accepted (offer_fits b list hand nonce) (offered b aware list hand nonce) s n e in
    subst (λ o. ReadBack o b aware list hand nonce) (sym a.bytes) (read_back b aware list hand nonce a.fit whole)

-- an accepted answer: as host B, with the one TEP
pub answer_reads_back : (aware : Bool) (t : ℕ) (hand : Option SessionRecord) (nonce s : List ℕ) (n : ℕ) → IsWhole hand → (write_answer aware t hand nonce s).says ≡ wrote n
    → ReadBack (take n (write_answer aware t hand nonce s).buffer) 1 aware (t ∷ []) hand nonce
answer_reads_back aware t hand nonce s n whole e =
    let q = answer_is_offer aware t hand nonce s in
    subst (λ (w : Written). ReadBack (take n w.buffer) 1 aware (t ∷ []) hand nonce) (sym q)
    (offer_reads_back 1 aware (t ∷ []) hand nonce s n whole (sym (ap (λ (w : Written). w.says) q) ∙ e))
