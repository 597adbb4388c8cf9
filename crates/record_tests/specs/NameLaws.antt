-- Laws of what names a session and of a record's parts. Assumes nothing.
use Rattle.std.specs.Prelude.{is_some, Option, ℕ, ◌≤◌, ◌<◌, ◌≡◌, refl, List, Bool, true, false, ◌&&◌, length}
use Rattle.std.proofs.Common.{sym, ◌∙◌, ap, arith}
use Rattle.std.proofs.Math.Decide.{dec_lt}
use Rattle.eno.proofs.Laws.Tep.{known_yes, known_below, known_above, tep_p256, tep_p521, tep_25519, tep_448, tep_unknown}
use Rattle.std.proofs.lemmas.Bool.{false≢true}
use borrow.Author.Tests.{le-leb, lt-leb, eqb-true, eq-eqb, ne_eqb}
use Rattle.std.proofs.Math.Dec.{leb, eqb}
use Rattle.wire.specs.Bytes.{same_bytes}
use Rattle.eno.specs.Tep.{is_known, tep_of}
use Rattle.eno.specs.Session.{in_hand}
use Rattle.eno.specs.declared.Tep.{Tep}
use Rattle.eno.specs.declared.InHand.{InHand}
use Rattle.eno.specs.declared.SessionRecord.{SessionRecord}
use Rattle.door.specs.Record.{is_session}
use Rattle.door.specs.Records.{is_in_hand, is_record}
use Rattle.record_tests.specs.Steps.{is_named}

-- one record
module _ (t : ℕ) (identifier : List ℕ) (r : SessionRecord) where
  pub session_other_tep : (r.tep ≡ t → ⊥) → false ≡ is_session t identifier r
  unfolding is_session
  session_other_tep h = simp (ne_eqb _ _ h)

  pub session_by_identifier : r.tep ≡ t → same_bytes r.identifier identifier ≡ is_session t identifier r
  unfolding is_session
  session_by_identifier e = simp (eq-eqb _ _ e)

-- the record in hand
module _ (t : ℕ) (identifier : List ℕ) (hand : InHand) where
  pub not_in_hand : hand.held ≡ false → false ≡ is_in_hand t identifier (in_hand hand)
  unfolding in_hand
  not_in_hand e = simp e

  pub in_hand_lem : hand.held ≡ true → is_session t identifier hand.session ≡ is_in_hand t identifier (in_hand hand)
  unfolding in_hand
  in_hand_lem e = simp e

known_of : (t : ℕ) → is_some (tep_of t) ≡ is_known t
known_of t = elim (dec_lt t 0x21) [
  | yes h ↦ ap is_some (sym (tep_unknown t (omega arith) (omega arith) (omega arith) (omega arith))) ∙ known_below t h
  | no h ↦ elim (dec_lt 0x24 t) [
    | yes k ↦ ap is_some (sym (tep_unknown t (omega arith) (omega arith) (omega arith) (omega arith))) ∙ known_above t k
    | no k ↦ let yes-known : true ≡ is_known t = known_yes t (omega arith) (omega arith) in elim (dec_lt 0x21 t) [
      | no a ↦ ap is_some (sym (tep_p256 t (omega arith))) ∙ yes-known
      | yes a ↦ elim (dec_lt 0x22 t) [
        | no b ↦ ap is_some (sym (tep_p521 t (omega arith))) ∙ yes-known
        | yes b ↦ elim (dec_lt 0x23 t) [
          | no e ↦ ap is_some (sym (tep_25519 t (omega arith))) ∙ yes-known
          | yes e ↦ ap is_some (sym (tep_448 t (omega arith))) ∙ yes-known
        ]
      ]
    ]
  ]
]

pub of_known : (t : ℕ) (r : Option Tep) → r ≡ tep_of t → is_some r ≡ is_known t
of_known t r e = ap is_some e ∙ known_of t

-- a TEP and an identifier
module _ (t : ℕ) (identifier : List ℕ) where
  pub named_unknown : is_known t ≡ false → false ≡ is_named t identifier
  unfolding is_named
  named_unknown e = simp e

  pub named_by_length : is_known t ≡ true → eqb (length identifier) 18 ≡ is_named t identifier
  unfolding is_named
  named_by_length e = simp e

and_first : (a b : Bool) → a && b ≡ true → a ≡ true
and_first true b e = refl
and_first false b e = e

and_rest : (a b : Bool) → a && b ≡ true → b ≡ true
and_rest true b e = e
and_rest false b e = absurd (false≢true e)

without_name : (known role identifier secret : Bool) → known && identifier ≡ false → false ≡ known && role && identifier && secret
without_name false role identifier secret e = refl
without_name true true false secret e = refl
without_name true false false secret e = refl
without_name true role true secret e = absurd (false≢true (sym e))

-- a record's parts
module _ (t role : ℕ) (identifier secret : List ℕ) where
  pub parts_unnamed : is_named t identifier ≡ false → false ≡ is_record t role identifier secret
  unfolding is_named is_record
  parts_unnamed e = without_name (is_known t) (leb role 1) (eqb (length identifier) 18) (eqb (length secret) 32) e

  module _ (named : is_named t identifier ≡ true) where
    pub parts_other_role : 1 < role → false ≡ is_record t role identifier secret
    unfolding is_named is_record
    parts_other_role h =
        let known = and_first (is_known t) (eqb (length identifier) 18) named in
        simp (known, lt-leb _ _ h)

    pub parts_by_secret : role ≤ 1 → eqb (length secret) 32 ≡ is_record t role identifier secret
    unfolding is_named is_record
    parts_by_secret h =
        let known = and_first (is_known t) (eqb (length identifier) 18) named in
        let whole = and_rest (is_known t) (eqb (length identifier) 18) named in
        simp (known, le-leb _ _ h, whole)

  -- their lengths
  module _ (fit : is_record t role identifier secret ≡ true) where
    pub identifier_length : length identifier ≡ 18
    unfolding is_record
    identifier_length = eqb-true _ _ (and_rest (is_known t && leb role 1) _ (and_first (is_known t && leb role 1 && eqb (length identifier) 18) (eqb (length secret) 32) fit))

    pub secret_length : length secret ≡ 32
    unfolding is_record
    secret_length = eqb-true _ _ (and_rest (is_known t && leb role 1 && eqb (length identifier) 18) (eqb (length secret) 32) fit)
