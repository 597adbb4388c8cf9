-- The tests of the calls say what the rows of the table of numbers say.
use Rattle.std.specs.Prelude.{ℕ, zero, suc, ◌≤◌, ◌≡◌, refl, List, [], ◌∷◌, Bool, true, false, cond, not, ◌&&◌, ◌||◌, ltb, leb, eqb, length}
use Rattle.std.proofs.Common.{sym, ◌∙◌, ap, ap₂, true≢false, arith, le-leb, le-ltb, lt-ltb, ne_eqb}
use Rattle.std.proofs.lemmas.Bool.{false≢true, lt-leb}
use Rattle.std.proofs.Math.Decide.{dec_lt}
use Rattle.eno.specs.Tep.{is_known}
use Rattle.eno.specs.Option.{is_listed, known_once, is_tep_list}
use Rattle.door.specs.Door.{Phase, idle, offering, crossed, answering, opened, unencrypted, phase_number}
use Rattle.door.specs.Offer.{terms_fit, is_idle}
use Rattle.door.specs.Receive.{turn, is_out_of_turn, may_send, is_open, is_plain}
use Rattle.door.specs.Records.{is_record}
use Rattle.door.specs.Numbered.{is_repeated, has_unknown, bad_list, may_receive, is_one}

leb_not : (m n : ℕ) → leb m n ≡ not (ltb n m)
leb_not m n = elim (dec_lt n m) [
  | yes h ↦ simp (lt-leb _ _ h, lt-ltb _ _ h)
  | no h ↦ let l : m ≤ n = omega arith in simp (le-leb _ _ l, le-ltb _ _ l)
]

some_not_none : (n : ℕ) → leb 1 n ≡ not (eqb n 0)
some_not_none zero = refl
some_not_none (suc n) = let l : 1 ≤ suc n = omega arith in let z : suc n ≡ 0 → ⊥ = λ e. omega arith in simp (le-leb _ _ l, ne_eqb _ _ z)

known_step : (known listed repeated unknown : Bool) → known && not listed && not (repeated || unknown) ≡ not ((listed || repeated) || (not known || unknown))
known_step true true r u = refl
known_step true false true u = refl
known_step true false false u = refl
known_step false true r u = refl
known_step false false true u = refl
known_step false false false u = refl

known_once_lem : (l : List ℕ) → known_once l ≡ not (is_repeated l || has_unknown l)
unfolding known_once is_repeated has_unknown
known_once_lem [] = refl
known_once_lem (t ∷ l) = ap (λ x. is_known t && not (is_listed t l) && x) (known_once_lem l) ∙ known_step (is_known t) (is_listed t l) (is_repeated l) (has_unknown l)

list_step : (e l b : Bool) → not e && not l && not b ≡ not (e || l || b)
list_step true l b = refl
list_step false true b = refl
list_step false false b = refl

good_list : (l : List ℕ) → is_tep_list l ≡ not (bad_list l)
unfolding is_tep_list bad_list
good_list l =
    ap₂ (λ x y. x && leb (length l) 4 && y) (some_not_none (length l)) (known_once_lem l)
    ∙ (ap (λ x. not (eqb (length l) 0) && x && not (is_repeated l || has_unknown l)) (leb_not (length l) 4) ∙ list_step (eqb (length l) 0) (ltb 4 (length l)) (is_repeated l || has_unknown l))

terms_step : (bad n aware mandatory : Bool) → not (not bad && not n && (aware || not mandatory)) ≡ bad || n || (mandatory && not aware)
terms_step true n aware mandatory = refl
terms_step false true aware mandatory = refl
terms_step false false true true = refl
terms_step false false true false = refl
terms_step false false false true = refl
terms_step false false false false = refl

terms_are : (aware mandatory : Bool) (list nonce : List ℕ) → terms_fit aware mandatory list nonce ≡ not (bad_list list) && not (ltb 8 (length nonce)) && (aware || not mandatory)
unfolding terms_fit
terms_are aware mandatory list nonce = ap₂ (λ x y. x && y && (aware || not mandatory)) (good_list list) (leb_not (length nonce) 8)

role_step : (r bad n m : Bool) → not (not r && not (bad || n || m)) ≡ bad || n || r || m
role_step true true n m = refl
role_step true false true m = refl
role_step true false false m = refl
role_step false true n m = refl
role_step false false true m = refl
role_step false false false true = refl
role_step false false false false = refl

double_not : (x y : Bool) → not x ≡ y → x ≡ not y
double_not true true e = absurd (false≢true e)
double_not true false e = refl
double_not false true e = refl
double_not false false e = absurd (true≢false e)

pub answer_terms_lem : (aware mandatory : Bool) (list nonce : List ℕ) → not (terms_fit aware mandatory list nonce) ≡ bad_list list || ltb 8 (length nonce) || (mandatory && not aware)
answer_terms_lem aware mandatory list nonce = ap not (terms_are aware mandatory list nonce) ∙ terms_step (bad_list list) (ltb 8 (length nonce)) aware mandatory

pub offer_terms : (b : ℕ) (aware mandatory : Bool) (list nonce : List ℕ)
    → not (leb b 1 && terms_fit aware mandatory list nonce) ≡ bad_list list || ltb 8 (length nonce) || ltb 1 b || (mandatory && not aware)
offer_terms b aware mandatory list nonce =
    ap₂ (λ x y. not (x && y)) (leb_not b 1) (double_not _ _ (answer_terms_lem aware mandatory list nonce))
    ∙ role_step (ltb 1 b) (bad_list list) (ltb 8 (length nonce)) (mandatory && not aware)

record_step : (k r i s : Bool) → not (k && not r && i && s) ≡ r || not k || not i || not s
record_step true true i s = refl
record_step true false true s = refl
record_step true false false s = refl
record_step false true i s = refl
record_step false false i s = refl

pub record_terms : (t role : ℕ) (identifier secret : List ℕ)
    → not (is_record t role identifier secret) ≡ ltb 1 role || not (is_known t) || not (eqb (length identifier) 18) || not (eqb (length secret) 32)
unfolding is_record
record_terms t role identifier secret =
    ap (λ x. not (is_known t && x && eqb (length identifier) 18 && eqb (length secret) 32)) (leb_not role 1) ∙ record_step (is_known t) (ltb 1 role) (eqb (length identifier) 18) (eqb (length secret) 32)

pub forget_step : (k i : Bool) → not (k && i) ≡ not k || not i
forget_step true i = refl
forget_step false i = refl

pub idle_turn : (p : Phase) → not (is_idle p) ≡ not (is_one p (idle ∷ []))
unfolding is_one phase_number
idle_turn idle = refl
idle_turn offering = refl
idle_turn crossed = refl
idle_turn answering = refl
idle_turn opened = refl
idle_turn unencrypted = refl

pub send_turn : (p : Phase) → not (may_send p) ≡ not (is_one p (offering ∷ crossed ∷ answering ∷ []))
unfolding is_one phase_number
send_turn idle = refl
send_turn offering = refl
send_turn crossed = refl
send_turn answering = refl
send_turn opened = refl
send_turn unencrypted = refl

pub result_turn : (p : Phase) → not (is_open p || is_plain p) ≡ not (is_one p (opened ∷ unencrypted ∷ []))
unfolding is_one phase_number
result_turn idle = refl
result_turn offering = refl
result_turn crossed = refl
result_turn answering = refl
result_turn opened = refl
result_turn unencrypted = refl

pub result_room : (p : Phase) (m n : ℕ) → is_open p && ltb m n ≡ ltb m (cond (is_one p (opened ∷ [])) n 0)
unfolding is_one phase_number
result_room idle m n = sym (le-ltb m 0 (omega arith))
result_room offering m n = sym (le-ltb m 0 (omega arith))
result_room crossed m n = sym (le-ltb m 0 (omega arith))
result_room answering m n = sym (le-ltb m 0 (omega arith))
result_room opened m n = refl
result_room unencrypted m n = sym (le-ltb m 0 (omega arith))

pub receive_turn : (p : Phase) (syn ack : Bool) → is_out_of_turn (turn p syn ack) ≡ not (may_receive p syn ack)
unfolding turn may_receive
receive_turn idle syn ack = refl
receive_turn offering true true = refl
receive_turn offering true false = refl
receive_turn offering false ack = refl
receive_turn crossed true true = refl
receive_turn crossed true false = refl
receive_turn crossed false true = refl
receive_turn crossed false false = refl
receive_turn answering true true = refl
receive_turn answering true false = refl
receive_turn answering false true = refl
receive_turn answering false false = refl
receive_turn opened syn ack = refl
receive_turn unencrypted syn ack = refl
