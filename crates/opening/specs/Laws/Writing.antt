-- What the option writer's answers tell.
use Rattle.std.specs.Prelude.{ℕ, zero, suc, ◌+◌, ◌-◌, ◌≤◌, ◌<◌, List, [], ◌∷◌, ◌++◌, Bool, not, ◌&&◌, leb, drop, replicate, Result, Ok, Err}
use Rattle.std.proofs.Math.Path.{◌≡◌, refl, ap}
use Rattle.std.proofs.Common.{sym, ◌∙◌}
use Rattle.std.proofs.Math.Bool.{true, false, cond}
use Rattle.std.proofs.Math.Option.{Option, none, some}
use native.Mathlib.Omega.{arith}
use borrow.Author.Tests.{ltb-true, ltb-false}
use Rattle.std.proofs.Math.Dec.{ltb}
use Rattle.std.proofs.Math.ListN.{length, take}
use Rattle.std.proofs.lemmas.List.{length-replicate}
use Rattle.wire.specs.Bytes.{part, pasted}
use Rattle.wire.specs.ByteLaws.{pasted_fits, length_pasted, part_pasted}
use Rattle.eno.specs.Session.{in_hand}
use Rattle.eno.specs.Option.{Content, option_with, record_listed, offered, answered, offer_fits, answer_fits, Written, written_as, wrote, refused_with, write_option, write_offer, write_answer}
use Rattle.eno.specs.Laws.Asked.{MayBeAsked}
use Rattle.eno.proofs.Laws.Asked.{and_true, is_tep}
use Rattle.eno.specs.declared.SessionRecord.{SessionRecord}
use Rattle.eno.specs.declared.InHand.{InHand}
use Rattle.option_writer.specs.Answers.{option_refusal_number, writing_of}
use Rattle.option_writer.specs.declared.OptionRefusal.{OptionRefusal}
use Rattle.option_writer.specs.declared.OptionRefusal.TheVariants as refusal
use Rattle.door.specs.Door.{hand_of, empty_hand}

-- what a writer wrote
pub record Wrote (asked : List Content) (s : List ℕ) (k : ℕ) (t : List ℕ) : Type 0 where
  pub room : length (option_with asked) ≤ length s
  pub counted : k ≡ length (option_with asked)
  pub bytes : t ≡ pasted s 0 (option_with asked)

module _ (asked : List Content) (s t : List ℕ) where
  abbrev o : List ℕ
  o = option_with asked

  abbrev over : Bool
  over = ltb (length s) (length o)

  wrote_tells : (k : ℕ) → written_as (wrote k) t ≡ write_option true asked s → Wrote asked s k t
  unfolding write_option
  wrote_tells k e = go over refl e
    where
      go : (b : Bool) → ltb (length s) (length o) ≡ b → written_as (wrote k) t ≡ cond b (written_as (refused_with 5) s) (written_as (wrote (length o)) (pasted s 0 o)) → Wrote asked s k t
      go true q e = let y = ap (λ (w : Written). w.says) e in let z : ◌≡◌ {A = ℕ} 0 1 = cc in absurd (omega arith)
      go false q e = let y = ap (λ (w : Written). w.says) e in record { room = ltb-false _ _ q; counted = cc; bytes = ap (λ (w : Written). w.buffer) e }

  no_room_tells : written_as (refused_with 5) t ≡ write_option true asked s → (length s < length (option_with asked)) × (t ≡ s)
  unfolding write_option
  no_room_tells e = go over refl e
    where
      go : (b : Bool) → ltb (length s) (length o) ≡ b → written_as (refused_with 5) t ≡ cond b (written_as (refused_with 5) s) (written_as (wrote (length o)) (pasted s 0 o))
          → (length s < length o) × (t ≡ s)
      go true q e = (ltb-true _ _ q, ap (λ (w : Written). w.buffer) e)
      go false q e = let y = ap (λ (w : Written). w.says) e in let z : ◌≡◌ {A = ℕ} 0 1 = cc in absurd (omega arith)

  unfit_never : written_as (refused_with 3) t ≡ write_option true asked s → ⊥
  unfolding write_option
  unfit_never e = go over e
    where
      go : (b : Bool) → written_as (refused_with 3) t ≡ cond b (written_as (refused_with 5) s) (written_as (wrote (length o)) (pasted s 0 o)) → ⊥
      go true e = let y = ap (λ (w : Written). w.says) e in let z : ◌≡◌ {A = ℕ} 3 5 = cc in omega arith
      go false e = let y = ap (λ (w : Written). w.says) e in let z : ◌≡◌ {A = ℕ} 0 1 = cc in omega arith

  -- the same, from what the code's writer says
  module _ (r : Result ℕ OptionRefusal) (w : written_as (writing_of r) t ≡ write_option true asked s) where
    said : (x : Result ℕ OptionRefusal) → r ≡ x → written_as (writing_of x) t ≡ write_option true asked s
    said x q = ap (λ y. written_as (writing_of y) t) (sym q) ∙ w

    pub said_wrote : (k : ℕ) → r ≡ Ok k → Wrote asked s k t
    said_wrote k q = wrote_tells k (said (Ok k) q)

    pub said_no_room : r ≡ Err refusal.NoRoom → (length s < length (option_with asked)) × (t ≡ s)
    said_no_room q = no_room_tells (said (Err refusal.NoRoom) q)

    pub said_unfit : r ≡ Err refusal.Unfit → ⊥
    said_unfit q = unfit_never (said (Err refusal.Unfit) q)

    -- a refusal, whichever: the buffer is too short, and stays as it was
    pub said_refused : (why : OptionRefusal) → r ≡ Err why → (length s < length (option_with asked)) × ((t ≡ s) × (option_refusal_number why ≡ 5))
    said_refused refusal.Unfit q = absurd (said_unfit q)
    said_refused refusal.NoRoom q = let n = said_no_room q in (n.0, (n.1, refl))

  -- the bytes that were written are the option
  module _ (k : ℕ) (w : Wrote asked s k t) where
    pub within : k ≤ length t
    within = let l = ap length w.bytes ∙ length_pasted s 0 (option_with asked) in let r = w.room in let n = w.counted in omega arith

    pub written_option : take (k - 0) (drop 0 t) ≡ option_with asked
    unfolding part
    written_option =
        let n : k - 0 ≡ length (option_with asked) = omega (arith, w.counted) in
        ap (λ m. take m t) n ∙ (ap (λ l. take (length (option_with asked)) l) w.bytes ∙ part_pasted s 0 (option_with asked) (omega (arith, w.room)))

    pub written_short : MayBeAsked asked → length (take (k - 0) (drop 0 t)) ≤ 40
    written_short m = let l = ap length written_option in let h = m.short in omega arith

-- what is in hand is the record that was taken
in_hand_lem : (x : Option SessionRecord) → in_hand (hand_of x) ≡ x
unfolding in_hand hand_of empty_hand
in_hand_lem none = refl
in_hand_lem (some r) = refl

-- what the writer was asked, with a record in hand
module _ (hand : InHand) (taken : Option SessionRecord) (is : hand ≡ hand_of taken) where
  holds : in_hand hand ≡ taken
  holds = ap in_hand is ∙ in_hand_lem taken

  pub offer_said : (b : ℕ) (aware : Bool) (list nonce s : List ℕ) → offer_fits b list taken nonce ≡ true → (w : Written) → w ≡ write_offer b aware list (in_hand hand) nonce s
      → w ≡ write_option true (offered b aware list taken nonce) s
  unfolding write_offer
  offer_said b aware list nonce s fit w e =
      e ∙ (ap (λ h. write_offer b aware list h nonce s) holds ∙ ap (λ f. write_option f (offered b aware list taken nonce) s) fit)

  pub answer_said : (aware : Bool) (t : ℕ) (nonce s : List ℕ) → answer_fits t taken nonce ≡ true → (w : Written) → w ≡ write_answer aware t (in_hand hand) nonce s
      → w ≡ write_option true (answered aware t taken nonce) s
  unfolding write_answer
  answer_said aware t nonce s fit w e =
      e ∙ (ap (λ h. write_answer aware t h nonce s) holds ∙ ap (λ f. write_option f (answered aware t taken nonce) s) fit)
