-- What the ledger counts is what the host sees: which record an offer or answer takes is in the bytes that it wrote, and the ledger follows from calls, replies and buffers alone.
use Rattle.std.specs.Prelude.{◌≡◌, Bool, ℕ, ◌<◌, eqb, length, take}
use Rattle.std.proofs.Math.Path.{refl, ap}
use Rattle.std.proofs.Common.{sym, ap₂, ◌∙◌, subst, eqb-true}
use Rattle.std.proofs.Math.Bool.{true, false}
use Rattle.std.proofs.lemmas.Bool.{false≢true, eqb-false}
use mathlib.Core.List.{List, [], ◌∷◌, ◌++◌}
use Rattle.eno.specs.Area.{syn_option}
use Rattle.eno.specs.Session.{in_hand}
use Rattle.eno.specs.Laws.Walk.{Every}
use Rattle.eno.specs.declared.SessionRecord.{SessionRecord}
use Rattle.door.specs.Door.{Seen}
use Rattle.door.specs.Outcome.{written, holds, Outcome, unless}
use Rattle.door.specs.Offer as o
use Rattle.door.specs.Answer as a
use Rattle.door.specs.Answer.{answer_with, plain_for, with}
use Rattle.door.specs.Receive as r
use Rattle.door.specs.Records as k
use Rattle.door.specs.Calls.{Ask, offer, answer, receive, resend, result, close, store, forget, count, outcome, effected}
use Rattle.door.specs.Calls as door
use Rattle.door.specs.declared.Door.{Door}
use Rattle.unit.specs.Numbers.{doors_n}
use Rattle.unit.specs.Unit.{empty_unit, view}
use Rattle.unit.specs.Run.{Call, on, erase, Told, step, after}
use Rattle.unit.specs.Entries.{less}
use Rattle.unit.specs.Isolation.{idle_view}
use Rattle.unit.proofs.Isolation.{view_empty, told_at, view_at_lem, view_off}
use Rattle.unit.specs.History.{seen_after, told_after, door_then}
use Rattle.unit.proofs.History.{grows, reached, seen_one, told_is, then_door}
use Rattle.unit.specs.Ledger.{ledger}
use Rattle.unit.proofs.Ledger.{pool_holds}
use Rattle.unit.proofs.Stories.{held_whole}
use Rattle.unit.specs.Seen.{Exchange, exchanges_from, exchanges, is_opening, TakenAsWritten, less_resumed, of_offer, of_answer, records_after, ledger_seen}
use Rattle.unit.proofs.Laws.Calls.{unless_law}
use Rattle.unit.specs.Laws.Shown.{Whole}
use Rattle.unit.proofs.Laws.Shown.{offer_shown, answer_shown}
use Rattle.unit.specs.declared.LinkUnit.{LinkUnit}

-- a call of a door: the records that it leaves follow from those before it and from what it gave back
module _ (v : Seen) where
  abbrev told_of : Outcome → Told
  told_of x = record { reply = x.reply; buffer = x.buffer }

  Follows : Ask → Outcome → Type 0
  Follows q x = records_after v.held q (told_of x) ≡ effected x.effect v.held

  -- where the call comes to x
  abbrev If : Ask → Outcome → Type 0
  If q x = outcome true v q ≡ x → Follows q x

  module _ (whole : Every Whole v.held) where
    wrote_offer : (b : ℕ) (aware mandatory : Bool) (list : List ℕ) (resume : Bool) (nonce s : List ℕ) (n : ℕ) (x : Outcome) → x.reply ≡ written n → If (offer b aware mandatory list resume nonce s) x
    unfolding Follows records_after outcome door.after
    wrote_offer b aware mandatory list resume nonce s n x w e =
        rw w
        (subst (λ (y : Outcome). less_resumed (syn_option (take n y.buffer)) of_offer v.held ≡ effected y.effect v.held) e
        (offer_shown v b aware mandatory list resume nonce s n whole (ap (λ (y : Outcome). y.reply) e ∙ w)).stay)

    wrote_answer : (area : List ℕ) (aware mandatory : Bool) (list nonce s : List ℕ) (n : ℕ) (x : Outcome) → x.reply ≡ written n → If (answer area aware mandatory list nonce s) x
    unfolding Follows records_after outcome door.after
    wrote_answer area aware mandatory list nonce s n x w e =
        rw w
        (subst (λ (y : Outcome). less_resumed (syn_option (take n y.buffer)) (of_answer area) v.held ≡ effected y.effect v.held) e
        (answer_shown v area aware mandatory list nonce s n whole (ap (λ (y : Outcome). y.reply) e ∙ w)).stay)

    with_answer : (area : List ℕ) (aware mandatory : Bool) (list nonce s : List ℕ) (w : a.Answering) → If (answer area aware mandatory list nonce s) (answer_with v aware mandatory (syn_option area) nonce s w)
    unfolding Follows records_after answer_with effected
    with_answer area aware mandatory list nonce s (plain_for c) e = refl
    with_answer area aware mandatory list nonce s (with c) e = wrote_answer area aware mandatory list nonce s _ _ refl e

    follows : (q : Ask) → Follows q (outcome true v q)
    unfolding outcome o.offer a.answer r.receive r.resend r.result r.close k.store k.forget k.count Follows records_after effected unless less
    follows (offer b aware mandatory list resume nonce s) =
        unless_law (If (offer b aware mandatory list resume nonce s)) _ v.door s _ (λ n e. refl) (λ p e. wrote_offer b aware mandatory list resume nonce s _ _ refl e) refl
    follows (answer area aware mandatory list nonce s) =
        unless_law (If (answer area aware mandatory list nonce s)) _ v.door s _ (λ n e. refl) (λ p e. with_answer area aware mandatory list nonce s _ e) refl
    follows (receive syn ack area) = unless_law (Follows (receive syn ack area)) _ v.door [] _ (λ n. refl) (λ p. refl)
    follows (resend s) = unless_law (Follows (resend s)) _ v.door s _ (λ n. refl) (λ p. refl)
    follows (result s) = unless_law (Follows (result s)) _ v.door s _ (λ n. refl) (λ p. refl)
    follows close = refl
    follows (store t role identifier secret) = unless_law (Follows (store t role identifier secret)) _ v.door [] _ (λ n. refl) (λ p. refl)
    follows (forget t identifier) = unless_law (Follows (forget t identifier)) _ v.door [] _ (λ n. refl) (λ p. refl)
    follows count = refl

-- one call more
exchanges_more : (u : LinkUnit) (es : List Exchange) (cs : List Call) (c : Call) → exchanges_from u es (cs ++ c ∷ []) ≡ record { call = c; told = (step (after u cs) c).told } ∷ exchanges_from u es cs
unfolding exchanges_from after
exchanges_more u es [] c = refl
exchanges_more u es (x ∷ cs) c = exchanges_more (step u x).unit _ cs c

pub exchanges_one : (cs : List Call) (c : Call) → exchanges (cs ++ c ∷ []) ≡ record { call = c; told = (step (after empty_unit cs) c).told } ∷ exchanges cs
unfolding exchanges
exchanges_one cs c = exchanges_more empty_unit [] cs c

module _ (d : ℕ) (h : d < doors_n) where
  abbrev next : List Call → Ask → Outcome
  next cs q = outcome true (seen_after d cs) q

  -- so seen by the host
  shown_told : (cs : List Call) (q : Ask) (n : ℕ) → ((next cs q).reply ≡ written n → TakenAsWritten (syn_option (take n (next cs q).buffer)) (in_hand (next cs q).door.hand))
      → (told_after d cs q).reply ≡ written n → TakenAsWritten (syn_option (take n (told_after d cs q).buffer)) (in_hand (door_then d cs q).hand)
  shown_told cs q n f e =
      let t = told_is d h cs q in
      subst (λ (x : Told). TakenAsWritten (syn_option (take n x.buffer)) (in_hand (door_then d cs q).hand)) (sym t)
      (subst (λ (x : Door). TakenAsWritten (syn_option (take n (next cs q).buffer)) (in_hand x.hand)) (sym (then_door d h cs q)) (f (sym (ap (λ (x : Told). x.reply) t) ∙ e)))

  -- an offer or answer that wrote n bytes takes a record exactly when the option in the first n bytes of its lent buffer has a resumption suboption, and that one
  pub taken_as_written : (cs : List Call) (q : Ask) (n : ℕ) → is_opening q ≡ true → (told_after d cs q).reply ≡ written n
      → TakenAsWritten (syn_option (take n (told_after d cs q).buffer)) (in_hand (door_then d cs q).hand)
  unfolding outcome
  taken_as_written cs (offer b aware mandatory list resume nonce s) n i e =
      shown_told cs (offer b aware mandatory list resume nonce s) n (λ w. (offer_shown (seen_after d cs) b aware mandatory list resume nonce s n (held_whole d h cs) w).taken) e
  taken_as_written cs (answer area aware mandatory list nonce s) n i e =
      shown_told cs (answer area aware mandatory list nonce s) n (λ w. (answer_shown (seen_after d cs) area aware mandatory list nonce s n (held_whole d h cs) w).taken) e
  taken_as_written cs (receive syn ack area) n i e = absurd (false≢true i)
  taken_as_written cs (resend s) n i e = absurd (false≢true i)
  taken_as_written cs (result s) n i e = absurd (false≢true i)
  taken_as_written cs close n i e = absurd (false≢true i)
  taken_as_written cs (store t role identifier secret) n i e = absurd (false≢true i)
  taken_as_written cs (forget t identifier) n i e = absurd (false≢true i)
  taken_as_written cs count n i e = absurd (false≢true i)

  abbrev Held : List Call → Type 0
  Held cs = (seen_after d cs).held ≡ ledger_seen d (exchanges cs)

  own_or_other : (b : Bool) (cs : List Call) (e : ℕ) (q : Ask) → eqb e d ≡ b → Held cs → Held (cs ++ on e q ∷ [])
  unfolding ledger_seen Follows door.after
  own_or_other true cs e q i p =
      let u = after empty_unit cs in
      let x = next cs q in
      let s = reached d h cs in
      ap (λ (v : Seen). v.held) (seen_one d h cs (on e q) ∙ view_at_lem d h u s e q (eqb-true e d i))
      ∙ (sym (follows (seen_after d cs) (held_whole d h cs) q)
      ∙ (ap₂ (λ (l : List SessionRecord) (t : Told). records_after l q t) p (sym (told_at d h u s e q (eqb-true e d i)))
      ∙ (sym (rw i) ∙ ap (ledger_seen d) (sym (exchanges_one cs (on e q))))))
  own_or_other false cs e q i p =
      ap (λ (v : Seen). v.held) (seen_one d h cs (on e q) ∙ view_off d h (after empty_unit cs) (reached d h cs) e q (eqb-false e d i))
      ∙ (p ∙ (sym (rw i) ∙ ap (ledger_seen d) (sym (exchanges_one cs (on e q)))))

  one_more : (cs : List Call) (c : Call) → Held cs → Held (cs ++ c ∷ [])
  unfolding step ledger_seen idle_view
  one_more cs erase p = ap (λ (v : Seen). v.held) (seen_one d h cs erase ∙ view_empty d h) ∙ ap (ledger_seen d) (sym (exchanges_one cs erase))
  one_more cs (on e q) p = own_or_other (eqb e d) cs e q refl p

  -- the pool holds for a door exactly the records that follow from what the host sees
  pub pool_holds_seen : (cs : List Call) → (view (after empty_unit cs) d).held ≡ ledger_seen d (exchanges cs)
  unfolding after exchanges exchanges_from ledger_seen idle_view
  pool_holds_seen cs = grows Held one_more cs [] (ap (λ (v : Seen). v.held) (view_empty d h))

  -- so the ledger is what the host sees
  pub ledger_is_seen : (cs : List Call) → ledger d cs ≡ ledger_seen d (exchanges cs)
  ledger_is_seen cs = sym (pool_holds d h cs) ∙ pool_holds_seen cs

  -- and what count tells is their number
  pub count_is_seen : (cs : List Call) → (told_after d cs count).reply ≡ holds (length (ledger_seen d (exchanges cs)))
  unfolding outcome k.count
  count_is_seen cs = ap (λ (t : Told). t.reply) (told_is d h cs count) ∙ ap (λ (l : List SessionRecord). holds (length l)) (pool_holds_seen cs)
