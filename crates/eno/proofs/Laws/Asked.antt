-- What an offer or an answer may ask: suboptions that may stand as they do, in an option of at most 40 bytes.
use Prim.Native.Nat.{ℕ, suc, ◌+◌, ◌≤◌, ◌<◌}
use Rattle.std.specs.Prelude.{◌≡◌, refl, Bool, cond, ◌&&◌, ◌||◌, eqb, leb, take, drop}
use Rattle.std.proofs.Common.{sym, ◌∙◌, ap, subst, leb-true, eqb-true, length-take, length-append}
use mathlib.Core.List.{List, [], ◌∷◌, ◌++◌}
use Rattle.std.proofs.Math.Bool.{true, false}
use Rattle.std.proofs.lemmas.Bool.{false≢true}
use Rattle.std.proofs.Math.Option.{Option, none, some}
use native.Mathlib.Omega.{arith}
use Rattle.std.proofs.Math.ListN.{length}
use Rattle.wire.specs.Bytes.{part}
use Rattle.eno.specs.Tep.{is_known}
use Rattle.eno.specs.Option.{Content, global_with, encode, encode_all, option_with, global_of, global_part, fresh_part, resumption_part, without, is_listed, known_once, is_tep_list, record_listed, offer_fits, answer_fits, fresh_teps, last_part, offered, answered, write_option, write_offer, write_answer}
use Rattle.eno.specs.AreaGrammar.{AreProper}
use Rattle.eno.specs.SuboptionGrammar as sub
use Rattle.eno.specs.Session.{sent_half}
use Rattle.eno.specs.Laws.Walk.{Every}
use Rattle.eno.specs.declared.SessionRecord.{SessionRecord}
use Rattle.eno.specs.Laws.Asked.{IsTep, OfTep, MayBeAsked, Fits}

pub and_true : (a b : Bool) → a && b ≡ true → (a ≡ true) × (b ≡ true)
and_true true true e = (refl, refl)
and_true true false e = absurd (false≢true e)
and_true false b e = absurd (false≢true e)

pub is_tep : (t : ℕ) → is_known t ≡ true → IsTep t
unfolding is_known
is_tep t e = let h = and_true _ _ e in (leb-true _ _ h.0, leb-true _ _ h.1)

pub all_teps : (l : List ℕ) → known_once l ≡ true → Every IsTep l
unfolding known_once
all_teps [] e = tt
all_teps (t ∷ l) e =
    let h = and_true _ _ e in
    (is_tep t (and_true _ _ h.0).0, all_teps l h.1)

pub listed_tep : (t : ℕ) (l : List ℕ) → Every IsTep l → is_listed t l ≡ true → IsTep t
unfolding is_listed
listed_tep t [] p e = absurd (false≢true e)
listed_tep t (x ∷ l) p e = go (eqb x t) refl e (listed_tep t l p.1)
  where
    go : (b : Bool) → eqb x t ≡ b → b || is_listed t l ≡ true → (is_listed t l ≡ true → IsTep t) → IsTep t
    go true q e rest = subst IsTep (eqb-true _ _ q) p.0
    go false q e rest = rest e

without_teps : (t : ℕ) (l : List ℕ) → Every IsTep l → Every IsTep (without t l)
unfolding without
without_teps t [] p = tt
without_teps t (x ∷ l) p = go (eqb x t) (without_teps t l p.1)
  where
    go : (b : Bool) → Every IsTep (without t l) → Every IsTep (cond b (without t l) (x ∷ without t l))
    go true r = r
    go false r = (p.0, r)

without_length : (t : ℕ) (l : List ℕ) → length (without t l) ≤ length l
unfolding without
without_length t [] = omega arith
without_length t (x ∷ l) = go (eqb x t) (without_length t l)
  where
    go : (b : Bool) → length (without t l) ≤ length l → length (cond b (without t l) (x ∷ without t l)) ≤ suc (length l)
    go true r = omega arith
    go false r = omega arith

-- each part of what is asked may stand where it does, and is short
module _ (m : List Content) (p : sub.AreProper m) where
  global_proper : (g : ℕ) → g < 0x20 → sub.AreProper (global_part g ++ m)
  unfolding global_part
  global_proper g h = go (eqb g 0)
    where
      go : (b : Bool) → sub.AreProper (cond b [] (global_with g ∷ []) ++ m)
      go true = p
      go false = (sub.global_suboption h, p)

  fresh_proper : (l : List ℕ) → Every IsTep l → sub.AreProper (fresh_part l ++ m)
  unfolding fresh_part
  fresh_proper [] h = p
  fresh_proper (t ∷ l) h = (sub.without_data {x = t} (omega arith) (omega arith), fresh_proper l h.1)

module _ (m : List Content) where
  global_length : (g : ℕ) → length (encode_all (global_part g ++ m)) ≤ suc (length (encode_all m))
  unfolding global_part encode_all encode
  global_length g = go (eqb g 0)
    where
      go : (b : Bool) → length (encode_all (cond b [] (global_with g ∷ []) ++ m)) ≤ suc (length (encode_all m))
      go true = omega arith
      go false = omega arith

  fresh_length : (l : List ℕ) → length (encode_all (fresh_part l ++ m)) ≡ length l + length (encode_all m)
  unfolding fresh_part encode_all encode
  fresh_length [] = omega arith
  fresh_length (t ∷ l) = let h = fresh_length l in omega arith

half_length : (r : SessionRecord) → length (sent_half r) ≤ 9
unfolding sent_half part
half_length r = go (eqb r.role 0)
  where
    go : (b : Bool) → length (cond b (take 9 (drop 0 r.identifier)) (take 9 (drop 9 r.identifier))) ≤ 9
    go true = simp length-take (omega arith)
    go false = simp length-take (omega arith)

last_length : (hand : Option SessionRecord) (nonce : List ℕ) → length (encode_all (last_part hand nonce)) ≤ 10 + length nonce
unfolding encode_all encode last_part resumption_part
last_length none nonce = omega arith
last_length (some r) nonce =
    let h = half_length r in
    let a = length-append (sent_half r) nonce in
    let b = length-append (sent_half r ++ nonce) [] in
    omega arith

pub of_tep : (hand : Option SessionRecord) (list : List ℕ) → Every IsTep list → record_listed hand list ≡ true → OfTep hand
unfolding record_listed
of_tep none list p e = tt
of_tep (some r) list p e = listed_tep r.tep list p e

last_proper : (hand : Option SessionRecord) (nonce : List ℕ) → OfTep hand → sub.AreProper (last_part hand nonce)
unfolding encode_all last_part resumption_part
last_proper none nonce h = tt
last_proper (some r) nonce h = (sub.data_to_end {x = r.tep + 0x80} (omega arith), tt)

pub fresh_teps_lem : (hand : Option SessionRecord) (list : List ℕ) → Every IsTep list → Every IsTep (fresh_teps hand list)
unfolding fresh_teps
fresh_teps_lem none list p = p
fresh_teps_lem (some r) list p = without_teps r.tep list p

fresh_teps_length : (hand : Option SessionRecord) (list : List ℕ) → length (fresh_teps hand list) ≤ length list
unfolding fresh_teps
fresh_teps_length none list = omega arith
fresh_teps_length (some r) list = without_length r.tep list

global_small : (b : ℕ) (aware : Bool) → b ≤ 1 → global_of b aware < 0x20
unfolding global_of
global_small b true h = omega arith
global_small b false h = omega arith

tep_list : (list : List ℕ) → is_tep_list list ≡ true → (length list ≤ 4) × Every IsTep list
unfolding is_tep_list
tep_list list e =
    let h = and_true (leb 1 (length list) && leb (length list) 4) (known_once list) e in
    let i = and_true (leb 1 (length list)) (leb (length list) 4) h.0 in
    (leb-true _ _ i.1, all_teps list h.1)

pub fits : (b : ℕ) (list : List ℕ) (hand : Option SessionRecord) (nonce : List ℕ) → offer_fits b list hand nonce ≡ true → Fits b list hand nonce
unfolding offer_fits
fits b list hand nonce e =
    let h = and_true (leb b 1 && is_tep_list list && leb (length nonce) 8) (record_listed hand list) e in
    let i = and_true (leb b 1 && is_tep_list list) (leb (length nonce) 8) h.0 in
    let j = and_true (leb b 1) (is_tep_list list) i.0 in
    let k = tep_list list j.1 in
    record { one = leb-true _ _ j.0; four = k.0; eight = leb-true _ _ i.1; are_teps = k.1; of_these = of_tep hand list k.1 h.1 }

pub offer_may_be_asked : (b : ℕ) (aware : Bool) (list : List ℕ) (hand : Option SessionRecord) (nonce : List ℕ) → offer_fits b list hand nonce ≡ true
    → MayBeAsked (offered b aware list hand nonce)
unfolding offered option_with
offer_may_be_asked b aware list hand nonce e =
    let f = fits b list hand nonce e in
    let m = last_part hand nonce in
    let fresh = fresh_teps hand list in
    let u = last_length hand nonce in
    let v = fresh_length m fresh in
    let w = fresh_teps_length hand list in
    let g = global_length (fresh_part fresh ++ m) (global_of b aware) in
    record {
      proper =
          global_proper (fresh_part fresh ++ m) (fresh_proper m (last_proper hand nonce f.of_these) fresh (fresh_teps_lem hand list f.are_teps)) (global_of b aware)
          (global_small b aware f.one);
      short = omega arith;
    }

-- an answer is an offer of the one TEP, as host B
one_listed : (hand : Option SessionRecord) (t : ℕ) (aware : Bool) (nonce : List ℕ) → record_listed hand (t ∷ []) ≡ true
    → answered aware t hand nonce ≡ offered 1 aware (t ∷ []) hand nonce
unfolding answered offered record_listed is_listed fresh_teps without fresh_part last_part global_part global_of
one_listed none t true nonce e = refl
one_listed none t false nonce e = refl
one_listed (some r) t aware nonce e = go (eqb t r.tep) refl e aware
  where
    go : (b : Bool) → eqb t r.tep ≡ b → b || false ≡ true → (aware : Bool) → answered aware t (some r) nonce ≡ offered 1 aware (t ∷ []) (some r) nonce
    go true q e true = simp q
    go true q e false = simp q
    go false q e aware = absurd (false≢true e)

same_fit : (t : ℕ) (hand : Option SessionRecord) (nonce : List ℕ) → answer_fits t hand nonce ≡ offer_fits 1 (t ∷ []) hand nonce
unfolding answer_fits offer_fits is_tep_list known_once is_listed
same_fit t hand nonce = go (is_known t)
  where
    go : (k : Bool) → k && leb (length nonce) 8 && record_listed hand (t ∷ []) ≡ (k && true && true) && leb (length nonce) 8 && record_listed hand (t ∷ [])
    go true = refl
    go false = refl

listed_too : (t : ℕ) (hand : Option SessionRecord) (nonce : List ℕ) → offer_fits 1 (t ∷ []) hand nonce ≡ true → record_listed hand (t ∷ []) ≡ true
unfolding offer_fits
listed_too t hand nonce e = (and_true (leb 1 1 && is_tep_list (t ∷ []) && leb (length nonce) 8) (record_listed hand (t ∷ [])) e).1

unfit : (c d : List Content) (s : List ℕ) → write_option false c s ≡ write_option false d s
unfolding write_option
unfit c d s = refl

pub answer_is_offer : (aware : Bool) (t : ℕ) (hand : Option SessionRecord) (nonce s : List ℕ) → write_answer aware t hand nonce s ≡ write_offer 1 aware (t ∷ []) hand nonce s
unfolding write_answer write_offer
answer_is_offer aware t hand nonce s = ap (λ f. write_option f (answered aware t hand nonce) s) (same_fit t hand nonce) ∙ go (offer_fits 1 (t ∷ []) hand nonce) refl
  where
    go : (f : Bool) → offer_fits 1 (t ∷ []) hand nonce ≡ f → write_option f (answered aware t hand nonce) s ≡ write_option f (offered 1 aware (t ∷ []) hand nonce) s
    go true e = ap (λ c. write_option true c s) (one_listed hand t aware nonce (listed_too t hand nonce e))
    go false e = unfit (answered aware t hand nonce) (offered 1 aware (t ∷ []) hand nonce) s

pub answer_may_be_asked : (aware : Bool) (t : ℕ) (hand : Option SessionRecord) (nonce : List ℕ) → answer_fits t hand nonce ≡ true → MayBeAsked (answered aware t hand nonce)
answer_may_be_asked aware t hand nonce e =
    let f = sym (same_fit t hand nonce) ∙ e in
    subst MayBeAsked (sym (one_listed hand t aware nonce (listed_too t hand nonce f))) (offer_may_be_asked 1 aware (t ∷ []) hand nonce f)
