-- How an answer's option is judged: host B's, with one TEP.
use Rattle.std.specs.Prelude.{ℕ, ◌-◌, ◌%◌, ◌≤◌, ◌<◌, ◌≡◌, refl, List, [], ◌∷◌, ◌++◌, Bool, true, ◌&&◌, eqb}
use Rattle.std.proofs.Common.{sym, ◌∙◌, subst, arith}
use Rattle.std.proofs.Math.Path.{ap}
use Rattle.std.proofs.Math.Bool.{false, not}
use Rattle.std.proofs.Math.Option.{Option, none, some}
use borrow.Author.Tests.{eq-eqb, ne_eqb, eqb-false}
use Rattle.std.proofs.Math.Dec.{leb}
use Rattle.std.proofs.Math.ListN.{length}
use Rattle.eno.specs.Walk.{item, readable, listed, before}
use Rattle.eno.specs.Area.{Finding, refused, unreadable, missing, found, finding, part_of, syn_option}
use Rattle.eno.specs.Suboption.{Sent, global, tep, suboption_at, suboptions, is_ill_formed, globals, global_byte, role_bit, teps, name}
use Rattle.eno.specs.Tep.{is_known}
use Rattle.eno.specs.Judge.{is_fresh, is_bad, is_resumption, half_of, Way, fresh, resumed, matches, named, once, of_a, of_b, way_of, way_of_both, teps_of, validity, last_valid, agreed, negotiate, encrypt, first_of, is_unreadable, is_missing, too_long, role_of, aware_of, judge}
use Rattle.eno.proofs.Laws.Walk.{unroll_item, unroll_end}
use Rattle.eno.specs.Laws.Suboption.{sent_as}
use Rattle.eno.proofs.Laws.Suboption.{suboption_end, suboption_global, suboption_bare, suboption_to_end, suboption_onward}
use Rattle.eno.specs.declared.SessionRecord.{SessionRecord}
use Rattle.eno.specs.Cause.{first_cause}
use Rattle.eno.specs.declared.Cause.{Cause}
use Rattle.door.specs.Answer.{answer_reason}
use Rattle.door.specs.Laws.Judged.{Accepts, as_b}

-- an option of a global byte and one TEP, which runs to the end
module _ (n g byte : ℕ) (d : List ℕ) (small : g < 0x20) where
  abbrev one : List ℕ
  one = 0x45 ∷ n ∷ g ∷ byte ∷ d

  read_two : (x : Sent) (j : ℕ) → suboption_at one 3 ≡ item (tep x) j → length one ≤ j → suboptions one ≡ readable (global g ∷ tep x ∷ [])
  unfolding suboptions
  read_two x j e h =
      unroll_item (suboption_at one) (length one) (suboption_onward one) 2 (global g) 3 (sym (suboption_global one 2 (omega arith) small))
      ∙ ap (before (global g))
      (unroll_item (suboption_at one) (length one) (suboption_onward one) 3 (tep x) j e
      ∙ ap (before (tep x)) (unroll_end (suboption_at one) (length one) (suboption_onward one) j (sym (suboption_end one j h))))

  pub reads_data : 0xa0 ≤ byte → suboptions one ≡ readable (global g ∷ tep (sent_as false byte 4 (length d)) ∷ [])
  reads_data h =
      let k : length one - 4 ≡ length d = omega arith in
      let e = subst (λ m. suboption_at one 3 ≡ item (tep (sent_as false byte 4 m)) (length one)) k (sym (suboption_to_end one 3 (omega arith) h)) in
      read_two (sent_as false byte 4 (length d)) (length one) e (omega arith)

pub reads_bare : (n g byte : ℕ) → g < 0x20 → 0x20 ≤ byte → byte < 0x80
    → suboptions (0x45 ∷ n ∷ g ∷ byte ∷ []) ≡ readable (global g ∷ tep (sent_as false byte 4 0) ∷ [])
reads_bare n g byte small low high = read_two n g byte [] small (sent_as false byte 4 0) 4 (sym (suboption_bare (0x45 ∷ n ∷ g ∷ byte ∷ []) 3 (omega arith) low high)) (omega arith)

-- no refusal: no test holds
pub none_holds : (a : Bool) (n : Cause) (l : List (Bool × Cause)) → first_cause ((a, n) ∷ l) ≡ none → (a ≡ false) × (first_cause l ≡ none)
unfolding first_cause
none_holds true n l e = let z : ◌≡◌ {A = ℕ} 0 1 = cc in absurd (omega arith)
none_holds false n l e = (refl, e)

-- where an option is found, the area is readable and not without an option
module _ (s : List ℕ) (some_bytes : length (syn_option s) ≡ 0 → ⊥) where
  pub found_there : (is_unreadable (finding s true) ≡ false) × (is_missing (finding s true) ≡ false)
  unfolding syn_option part_of
  found_there = go (finding s true) some_bytes
    where
      go : (f : Finding) → (length (part_of s f) ≡ 0 → ⊥) → (is_unreadable f ≡ false) × (is_missing f ≡ false)
      go refused z = absurd (z refl)
      go (unreadable x) z = absurd (z refl)
      go missing z = absurd (z refl)
      go (found i n) z = (refl, refl)

pub accepts : (mandatory : Bool) (area : List ℕ) → answer_reason mandatory area ≡ none → Accepts mandatory area
unfolding answer_reason
accepts mandatory area e =
    let a = none_holds (is_unreadable (finding area true)) _ _ e in
    let b = none_holds (is_missing (finding area true)) _ _ a.1 in
    let c = none_holds (is_ill_formed (suboptions (syn_option area))) _ _ b.1 in
    let d = none_holds (eqb (role_of (syn_option area)) 1) _ _ c.1 in
    let f = none_holds (mandatory && eqb (aware_of (syn_option area)) 0) _ _ d.1 in
    record { not_unreadable = a.0; not_missing = b.0; not_ill = c.0; not_b = d.0; aware_enough = f.0 }

module _ (mandatory : Bool) (hand : Option SessionRecord) (o area : List ℕ) (short : too_long o ≡ false) (alone : syn_option o ≡ o) (there : length o ≡ 0 → ⊥) (long : too_long area ≡ false)
    (ok : Accepts mandatory area) (g : ℕ) (x : Sent) (reads : suboptions o ≡ readable (global g ∷ tep x ∷ [])) (odd : g % 2 ≡ 1) where
  abbrev p : List ℕ
  p = syn_option area

  role_b : role_of o ≡ 1
  unfolding role_of role_bit global_byte globals
  role_b = ap (λ r. role_bit (listed r)) reads ∙ odd

  teps_b : teps_of o ≡ x ∷ []
  unfolding teps_of teps
  teps_b = ap (λ r. teps (listed r)) reads

  well_b : is_ill_formed (suboptions o) ≡ false
  unfolding is_ill_formed
  well_b = ap is_ill_formed reads

  differ : eqb 1 (role_of p) ≡ false
  differ = ne_eqb 1 (role_of p) (λ e. eqb-false _ _ ok.not_b (sym e))

  to_negotiate : judge mandatory hand o area ≡ negotiate 1 (as_b hand o p)
  unfolding judge first_of
  to_negotiate =
      let f = found_there o (λ z. there (sym (ap length alone) ∙ z)) in
      simp (short, long, f.0, f.1, ok.not_unreadable, ok.not_missing, alone, well_b, ok.not_ill, role_b, differ, ok.aware_enough)

  pub agrees_on : (w : Way) → validity (as_b hand o p) (name x) ≡ some w → judge mandatory hand o area ≡ encrypt 1 x.byte w (p ++ o)
  unfolding negotiate agreed last_valid of_a of_b
  agrees_on w v = to_negotiate ∙ rw (teps_b, last_valid, v)

  module _ (t : ℕ) (is_name : name x ≡ t) (known : is_known t ≡ true) (y : Sent) (is_once : once (named t (teps_of p)) ≡ some y) (not_bad : is_bad y ≡ false) where
    once_b : once (named t (teps_of o)) ≡ some x
    unfolding named once
    once_b = rw (teps_b, named, eq-eqb _ _ is_name)

    valid_by : (w : Way) → way_of (as_b hand o p) t x y ≡ some w → validity (as_b hand o p) (name x) ≡ some w
    unfolding validity way_of_both
    valid_by w e = rw (is_name, known, once_b, is_once) e

    -- B's is fresh: so is the key exchange
    fresh_way : is_fresh x ≡ true → way_of (as_b hand o p) t x y ≡ some fresh
    unfolding way_of of_b is_bad
    fresh_way f = let n : not (is_fresh y) && leb 18 y.len ≡ false = not_bad in simp (f, n)

    pub agrees_fresh : is_fresh x ≡ true → judge mandatory hand o area ≡ encrypt 1 x.byte fresh (p ++ o)
    agrees_fresh f = agrees_on fresh (valid_by fresh (fresh_way f))

    -- both are resumption and the record matches
    module _ (r : is_resumption x ≡ true) (b : is_bad x ≡ false) (f : is_fresh x ≡ false) (s : is_resumption y ≡ true) (m : matches hand t (half_of o x) (half_of p y) ≡ true) where
      resumed_way : way_of (as_b hand o p) t x y ≡ some resumed
      unfolding way_of of_b
      resumed_way = simp (b, not_bad, f, r, s, m)

      pub agrees_resumed : judge mandatory hand o area ≡ encrypt 1 x.byte resumed (p ++ o)
      agrees_resumed = agrees_on resumed (valid_by resumed resumed_way)
