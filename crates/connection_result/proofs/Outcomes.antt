-- What result comes to, by the tests of the code.
use Prim.Native.Nat.{ℕ, ◌+◌, ◌≤◌, ◌<◌}
use mathlib.Core.Path.{◌≡◌, refl, sym, ◌∙◌, ap, ap₂}
use mathlib.Core.List.{List, ◌++◌}
use mathlib.Core.Bool.{Bool, true, false, cond, ◌||◌}
use native.Mathlib.Omega.{arith}
use borrow.Author.Tests.{lt-ltb, le-ltb}
use lib.Dec.{ltb, eqb}
use lib.ListN.{length, replicate, length-append}
use Rattle.wire.specs.Bytes.{pasted}
use Rattle.wire.specs.ByteLaws.{pasted_twice}
use Rattle.eno.specs.Judge.{of_a, of_b, way_if}
use Rattle.door.specs.Door.{opened, phase_of, own_option, peer_option, transcript_of}
use Rattle.door.specs.Outcome.{Outcome, refused, plain, encrypted, keep}
use Rattle.door.specs.Receive.{secret_of, is_open, is_plain, result}
use Rattle.door.specs.Answers.{phase_as, outcome_as, secret_beside}
use Rattle.door.specs.declared.Door.{Door}
use Rattle.door.specs.declared.Phase.{Phase}
use Rattle.door.specs.declared.Phase.TheVariants as phase
use Rattle.door_data.specs.Tests.{two_tests}

-- A's option, then B's
pub both_written : (s own peer : List ℕ) (c : Bool) → length own + length peer ≤ length s → (a b once twice : List ℕ) → a ≡ of_a c own peer → b ≡ of_b c own peer
    → once ≡ pasted s 0 a → twice ≡ pasted once (length a) b → twice ≡ pasted s 0 (of_a c own peer ++ of_b c own peer)
unfolding of_a of_b
both_written s own peer c room a b once twice ea eb eo et =
    et
    ∙ (ap (λ x. pasted x (length a) b) eo
    ∙ (ap (λ k. pasted (pasted s 0 a) k b) (let z : length a ≡ 0 + length a = omega arith in z)
    ∙ (pasted_twice s a b 0 (let f = fit c ea eb in omega arith) ∙ ap₂ (λ x y. pasted s 0 (x ++ y)) ea eb)))
  where
    fit : (c : Bool) → a ≡ of_a c own peer → b ≡ of_b c own peer → length a + length b ≡ length own + length peer
    fit true p q = let x = ap length p in let y = ap length q in omega arith
    fit false p q = let x = ap length p in let y = ap length q in omega arith

-- neither Open nor Plain
unsettled : (p : Phase) → (p ≡ phase.Open → ⊥) → (p ≡ phase.Plain → ⊥) → is_open (phase_as p) || is_plain (phase_as p) ≡ false
unsettled phase.Idle o q = refl
unsettled phase.Offered o q = refl
unsettled phase.Crossed o q = refl
unsettled phase.Answered o q = refl
unsettled phase.Open o q = absurd (o refl)
unsettled phase.Plain o q = absurd (q refl)

-- result
module _ (d : Door) (s : List ℕ) where
  abbrev Told : Outcome → List ℕ → Type 0
  Told x secret = (x ≡ result d s) × (secret ≡ secret_beside (result d s).reply)

  told_by : (x y : Outcome) (secret : List ℕ) → x ≡ y → result d s ≡ y → secret ≡ secret_beside y.reply → Told x secret
  told_by x y secret e r h = (e ∙ sym r, h ∙ ap (λ (o : Outcome). secret_beside o.reply) (sym r))

  abbrev open_outcome : Outcome
  open_outcome = outcome_as (encrypted d.role d.tep (way_if d.resumed) (length (transcript_of d)) (secret_of d)) (pasted s 0 (transcript_of d)) d keep

  open_by : phase_of d.phase ≡ opened → result d s ≡ cond (ltb (length s) (length (transcript_of d))) (outcome_as (refused 5) s d keep) open_outcome
  unfolding result
  open_by e = rw e (two_tests _ _ _ _ _ _ _)

  -- o is what counts of this end's own option, p of the other side's
  module _ (at : phase_of d.phase ≡ opened) (o p : List ℕ) (eo : o ≡ own_option d) (ep : p ≡ peer_option d) where
    both_long : length (transcript_of d) ≡ length o + length p
    unfolding transcript_of of_a of_b
    both_long = length-append (of_a (eqb d.role 1) (own_option d) (peer_option d)) (of_b (eqb d.role 1) (own_option d) (peer_option d)) ∙ go (eqb d.role 1)
      where
        go : (c : Bool) → length (of_a c (own_option d) (peer_option d)) + length (of_b c (own_option d) (peer_option d)) ≡ length o + length p
        go true = let x = ap length eo in let y = ap length ep in omega arith
        go false = let x = ap length eo in let y = ap length ep in omega arith

    pub open_short : length s < length o + length p → Told (outcome_as (refused 5) s d keep) (replicate 32 0)
    open_short h = told_by _ (outcome_as (refused 5) s d keep) _ refl (open_by at ∙ simp (both_long, lt-ltb _ _ h)) refl

    pub open_told : length o + length p ≤ length s → (t : List ℕ)
        → t ≡ pasted s 0 (of_a (eqb d.role 1) o p ++ of_b (eqb d.role 1) o p)
        → (secret : List ℕ) → secret ≡ cond d.resumed d.hand.session.secret (replicate 32 0)
        → Told (outcome_as (encrypted d.role d.tep (way_if d.resumed) (length o + length p) secret) t d keep) secret
    unfolding transcript_of secret_of
    open_told h t et secret es =
        told_by _ open_outcome _
        (ap₂ (λ x y. outcome_as (encrypted d.role d.tep (way_if d.resumed) (length o + length p) x) y d keep) es
        (et ∙ ap₂ (λ x y. pasted s 0 (of_a (eqb d.role 1) x y ++ of_b (eqb d.role 1) x y)) eo ep)
        ∙ ap (λ k. outcome_as (encrypted d.role d.tep (way_if d.resumed) k (secret_of d)) (pasted s 0 (transcript_of d)) d keep) (sym both_long))
        (open_by at ∙ simp (both_long, le-ltb _ _ h))
        es

  module _ (p : Phase) (ep : phase_as p ≡ phase_of d.phase) where
    pub plain_told : p ≡ phase.Plain → Told (outcome_as (plain d.cause) s d keep) (replicate 32 0)
    unfolding result
    plain_told e = told_by _ (outcome_as (plain d.cause) s d keep) _ refl (rw (sym ep ∙ ap phase_as e) (two_tests _ _ _ _ _ _ _)) refl

    pub out_told : (p ≡ phase.Open → ⊥) → (p ≡ phase.Plain → ⊥) → Told (outcome_as (refused 4) s d keep) (replicate 32 0)
    unfolding result
    out_told o q =
        let u : is_open (phase_of d.phase) || is_plain (phase_of d.phase) ≡ false = rw ep at (unsettled p o q) in
        told_by _ (outcome_as (refused 4) s d keep) _ refl (two_tests _ _ _ _ _ _ _ ∙ simp u) refl

pub is_open_lem : (d : Door) (p : Phase) → phase_as p ≡ phase_of d.phase → p ≡ phase.Open → phase_of d.phase ≡ opened
is_open_lem d p ep e = sym ep ∙ ap phase_as e
