-- For lists of calls: every cause that a call gives is the right one of an area that was handed to a call of that door.
use Rattle.std.proofs.Math.Path.{◌≡◌}
use Rattle.std.proofs.Common.{sym, ap, ◌∙◌, subst, true≢false, arith}
use Rattle.std.proofs.Math.Bool.{true}
use Rattle.std.specs.Prelude.{false, List, [], ◌∷◌, ◌++◌, ℕ, ◌<◌}
use Rattle.std.proofs.Math.Logic.{⊎_elim}
use Rattle.eno.specs.Area.{finding}
use Rattle.eno.specs.Judge.{is_unreadable}
use Rattle.eno.proofs.Causes.{cause_place, alone_readable}
use Rattle.eno.specs.declared.Cause.{Cause}
use Rattle.door.specs.Door.{idle, offering, opened, unencrypted, phase_of, own_option, idle_door, Seen}
use Rattle.door.specs.Outcome.{plain, Outcome}
use Rattle.door.proofs.Verdict.{offered_own}
use Rattle.door.specs.Calls.{Ask, outcome}
use Rattle.door.specs.Calls as door
use Rattle.door.specs.Causes.{Gives, by_area, by_own, as_kept}
use Rattle.door.proofs.Causes.{every_cause, plain_is_told}
use Rattle.door.specs.declared.Door.{Door}
use Rattle.unit.specs.Numbers.{doors_n}
use Rattle.unit.specs.Run.{Call, on, erase, Told}
use Rattle.unit.specs.Isolation.{idle_view}
use Rattle.unit.specs.History.{seen_after, door_after, told_after}
use Rattle.unit.proofs.History.{since_now, since_more, told_is, then_door, own_is, along}
use Rattle.unit.specs.Connections.{InPlain}
use Rattle.unit.specs.Stories.{is_waiting, Story, resting, sent, waiting, open_as, plain_as}
use Rattle.unit.proofs.Stories.{plain_phase, door_story}
use Rattle.unit.specs.Causes.{Caused}

-- a door that has offered wrote a readable option
offered_readable : (d : ℕ) (cs : List Call) (e : Door) → Story d cs e → phase_of e.phase ≡ offering → is_unreadable (finding (own_option e) true) ≡ false
offered_readable d cs e (resting p) q = let r : idle ≡ offering = sym p ∙ q in let z : ◌≡◌ {A = ℕ} 0 1 = cc in absurd (omega arith)
offered_readable d cs e (sent xs b aware mandatory list resume nonce lent option hand w u y l f) q =
    subst (λ (o : List ℕ). is_unreadable (finding o true) ≡ false) (sym (ap own_option y ∙ offered_own option [] mandatory 0 hand l)) (alone_readable option f)
offered_readable d cs e (waiting t y p i) q = absurd (true≢false (sym p ∙ ap is_waiting q))
offered_readable d cs e (open_as t y p i) q = let r : opened ≡ offering = sym p ∙ q in let z : ◌≡◌ {A = ℕ} 0 1 = cc in absurd (omega arith)
offered_readable d cs e (plain_as n y p) q =
    let r : unencrypted ≡ offering = sym (ap (λ (x : Door). phase_of x.phase) p ∙ plain_phase n) ∙ q in let z : ◌≡◌ {A = ℕ} 0 1 = cc in absurd (omega arith)

module _ (d : ℕ) (h : d < doors_n) where
  -- one call more, and the door is still in Plain
  caused_more : (cs : List Call) (k : Call) (c : Cause) → InPlain (door_after d (cs ++ k ∷ [])) → Caused d cs c → Caused d (cs ++ k ∷ []) c
  caused_more cs k c p x =
      record {
        before = x.before;
        ask = x.ask;
        area = x.area;
        handed_is = x.handed_is;
        gave = x.gave;
        right = x.right;
        below = x.below;
        since = since_more InPlain d cs x.before x.ask k p x.since;
      }

  -- a door in Plain keeps a cause that was given
  abbrev Kept : List Call → Seen → Type 0
  Kept cs v = InPlain v.door → Caused d cs v.door.cause

  module _ (cs : List Call) (kept : Kept cs (seen_after d cs)) (q : Ask) where
    abbrev now : Outcome
    now = outcome true (seen_after d cs) q

    in_plain : (e : Door) → now.door ≡ e → InPlain e → InPlain (door_after d (cs ++ on d q ∷ []))
    in_plain e x p = ap (λ (y : Door). phase_of y.phase) (own_is d h cs q ∙ x) ∙ p

    as_before : (c : Cause) → InPlain (door_after d cs) → (door_after d cs).cause ≡ c → now.door ≡ door_after d cs → Caused d (cs ++ on d q ∷ []) c
    as_before c p e x = caused_more cs (on d q) c (in_plain (door_after d cs) x p) (subst (Caused d cs) e (kept p))

    gives : (c : Cause) → now.reply ≡ plain c → Gives (seen_after d cs) q now.door c → Caused d (cs ++ on d q ∷ []) c
    gives c e (by_area area a s r x) =
        record {
          before = cs;
          ask = q;
          area = area;
          handed_is = a;
          gave = ap (λ (t : Told). t.reply) (told_is d h cs q) ∙ e;
          right = r;
          below = cause_place area c s r;
          since = since_now InPlain d cs q (ap (λ (y : Door). phase_of y.phase) (then_door d h cs q ∙ x) ∙ plain_phase c);
        }
    gives c e (by_own ack area k p u r x) = absurd (true≢false (sym u ∙ offered_readable d cs (door_after d cs) (door_story d h cs) p))
    gives c e (as_kept p k x) = as_before c p k x

    given : (c : Cause) → now.reply ≡ plain c → Caused d (cs ++ on d q ∷ []) c
    given c e = gives c e (every_cause (seen_after d cs) c true q e)

    next : Kept (cs ++ on d q ∷ []) (door.after (seen_after d cs) now)
    unfolding door.after
    next p = ⊎_elim
        (λ x. as_before now.door.cause (ap (λ (y : Door). phase_of y.phase) (sym x) ∙ p) (ap (λ (y : Door). y.cause) (sym x)) x)
        (λ x. given now.door.cause x)
        (plain_is_told true (seen_after d cs) q p)

  idle_kept : (cs : List Call) → Kept cs idle_view
  unfolding idle_view idle_door phase_of
  idle_kept cs p = let z : ◌≡◌ {A = ℕ} 0 1 = cc in absurd (omega arith)

  -- after every list of calls
  pub kept_is_right : (cs : List Call) → InPlain (door_after d cs) → Caused d cs (door_after d cs).cause
  kept_is_right =
      along d h Kept (idle_kept []) (λ cs. idle_kept (cs ++ erase ∷ []))
      (λ cs c e k p. caused_more cs c _ (ap (λ (v : Seen). phase_of v.door.phase) e ∙ p) (k p))
      (λ cs q k. next cs k q)

  -- every cause that a call gives, whichever it is
  pub cause_is_right : (cs : List Call) (q : Ask) (c : Cause) → (told_after d cs q).reply ≡ plain c → Caused d (cs ++ on d q ∷ []) c
  cause_is_right cs q c e = given cs (kept_is_right cs) q c (sym (ap (λ (t : Told). t.reply) (told_is d h cs q)) ∙ e)
