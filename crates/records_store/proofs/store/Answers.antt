-- `records_store::store` meets its contract.
use mathlib.Core.Path.{refl, sym, ◌∙◌, ap₂}
use native.Mathlib.Omega.{arith}
use Rattle.door_search.specs.Laws.{first_named}
use Rattle.door.specs.Numbers.{each_n}
use Rattle.door.specs.Door.{seen_of}
use Rattle.door.specs.declared.Refusal.TheVariants as refusal
use Rattle.record_tests.specs.NameLaws.{identifier_length, secret_length}
use Rattle.records.specs.Answers.{refused_store}
use Rattle.records.specs.StoreLaws.{session_of, is_held_lem, is_not_held, store_unfit, store_full, store_no_row, store_held, store_in_hand, store_adds, stores_nothing, stores_one}
use Rattle.records_store.proofs.store.Goals.{then-count-ge-EACH-via-then-count-ge-EACH, then-count-ge-EACH-via-else-count-ge-EACH+then-not-free, then-first-count-via-then-first-count, then-first-count-via-else-first-count+then-is_in_hand}
use Rattle.records_store.proofs.store.Goals as goal

pub returns-then-not-is_record : goal.returns-then-not-is_record
unfolding seen_of refused_store
returns-then-not-is_record c =
    stores_nothing _ _ refusal.Unfit _ refl
    (store_unfit _ (seen_of c.args.view) _ _ _ _ (sym c.is_record.ensures ∙ c.if-not-is_record.true))

pub returns-then-count-ge-EACH : goal.returns-then-count-ge-EACH
unfolding seen_of refused_store each_n
returns-then-count-ge-EACH c = elim c.then-count-ge-EACH.branch [
  | then-count-ge-EACH-via-then-count-ge-EACH w ↦
      stores_nothing _ _ refusal.Full _ refl
      (store_full _ (seen_of c.args.view) _ _ _ _ (sym c.is_record.ensures ∙ c.if-not-is_record.false) (omega (arith, c.held_count-count.ensures.seen, w.if-count-ge-EACH.true)))
  | then-count-ge-EACH-via-else-count-ge-EACH+then-not-free w ↦
      stores_nothing _ _ refusal.Full _ refl
      (store_no_row _ (seen_of c.args.view) _ _ _ _ (sym c.is_record.ensures ∙ c.if-not-is_record.false) (omega (arith, c.held_count-count.ensures.seen, w.if-count-ge-EACH.false)) w.if-not-free.true)
]

pub returns-then-first-count : goal.returns-then-first-count
unfolding seen_of refused_store each_n
returns-then-first-count c = elim c.then-first-count.branch [
  | then-first-count-via-then-first-count w ↦
      stores_nothing _ _ refusal.AlreadyHeld _ refl
      (store_held _ (seen_of c.args.view) _ _ _ _ (sym c.is_record.ensures ∙ c.if-not-is_record.false) (omega (arith, c.held_count-count.ensures.seen)) c.if-not-free.false
      (is_held_lem _ _ _ (omega (arith, w.if-first-count.true, c.held_count-count.ensures.seen, c.first_sought-first.ensures ∙ first_named _ _ _))))
  | then-first-count-via-else-first-count+then-is_in_hand w ↦
      stores_nothing _ _ refusal.AlreadyHeld _ refl
      (store_in_hand _ (seen_of c.args.view) _ _ _ _ (sym c.is_record.ensures ∙ c.if-not-is_record.false) (omega (arith, c.held_count-count.ensures.seen)) c.if-not-free.false
      (is_not_held _ _ _ (omega (arith, w.if-first-count.false, c.held_count-count.ensures.seen, c.first_sought-first.ensures ∙ first_named _ _ _)))
      (sym w.is_in_hand.ensures ∙ w.if-is_in_hand.true))
]

pub array_of-requires : goal.array_of-requires
array_of-requires c = (omega arith, identifier_length _ _ _ _ (sym c.is_record.ensures ∙ c.if-not-is_record.false))

pub array_of-requires-2 : goal.array_of-requires-2
array_of-requires-2 c = (omega arith, secret_length _ _ _ _ (sym c.is_record.ensures ∙ c.if-not-is_record.false))

pub returns : goal.returns
unfolding seen_of each_n
returns c =
    stores_one _ _ _ _ (ap₂ (λ x y. session_of c.args.tep c.args.role x y) c.array_of.ensures c.array_of-2.ensures)
    (store_adds _ (seen_of c.args.view) _ _ _ _ (sym c.is_record.ensures ∙ c.if-not-is_record.false) (omega (arith, c.held_count-count.ensures.seen)) c.if-not-free.false
    (is_not_held _ _ _ (omega (arith, c.held_count-count.ensures.seen, c.first_sought-first.ensures ∙ first_named _ _ _)))
    (sym c.is_in_hand.ensures ∙ c.if-is_in_hand.false))
