-- Laws of the global byte as it is put, of the half that is sent, and of the TEP of the record in hand.
use Rattle.std.specs.Prelude.{ℕ, ◌≤◌, ◌≡◌, List, [], ◌∷◌, true, false, eqb, length, take, drop}
use Rattle.std.proofs.Math.Path.{refl, sym}
use Rattle.std.proofs.Common.{◌∙◌, arith, eq-eqb, ne_eqb, take_all}
use Rattle.wire.specs.Bytes.{pasted, part}
use Rattle.wire.specs.ByteLaws.{length_part, length_pasted, part_pasted}
use Rattle.eno.specs.Session.{in_hand, sent_half}
use Rattle.eno.specs.Option.{encode, encode_all, global_part}
use Rattle.eno.proofs.Laws.Held.{nothing_held, is_held_lem}
use Rattle.eno.specs.declared.SessionRecord.{SessionRecord}
use Rattle.eno.specs.declared.InHand.{InHand}
use Rattle.option_layout.specs.Puts.{Puts, of_hand}
use Rattle.option_layout.specs.PutLaws.{puts_none}

-- the global byte
module _ (s : List ℕ) (g : ℕ) where
  pub puts_no_global : g ≡ 0 → Puts s 0 (encode_all (global_part g)) s 0
  unfolding encode_all global_part
  puts_no_global e = simp (eq-eqb _ _ e) (puts_none s 0)

  pub puts_global : (t : List ℕ) → (g ≡ 0 → ⊥) → t ≡ pasted s 0 (g ∷ []) → Puts s 0 (encode_all (global_part g)) t 1
  unfolding encode_all encode global_part
  puts_global t h e = simp (ne_eqb _ _ h) (record { bytes = e; next = refl })

-- what fills a buffer is the buffer
pasted_whole : (z v t : List ℕ) → t ≡ pasted z 0 v → length v ≡ length z → t ≡ v
unfolding part
pasted_whole z v t e h =
    let long : length (pasted z 0 v) ≤ length v = omega (arith, length_pasted z 0 v) in
    e ∙ (sym (take_all (length v) (pasted z 0 v) long) ∙ part_pasted z 0 v (omega arith))

-- the half that is sent fills its nine bytes
module _ (r : SessionRecord) (long : length r.identifier ≡ 18) (z t : List ℕ) (nine : length z ≡ 9) where
  half_fills : (k : ℕ) → k ≤ 9 → t ≡ pasted z 0 (take 9 (drop k r.identifier)) → t ≡ part k 9 r.identifier
  unfolding part
  half_fills k h p = pasted_whole z (take 9 (drop k r.identifier)) t p (length_part k 9 r.identifier (omega arith) ∙ sym nine)

  pub first_sent : r.role ≡ 0 → t ≡ pasted z 0 (take 9 (drop 0 r.identifier)) → t ≡ sent_half r
  unfolding sent_half
  first_sent e p = half_fills 0 (omega arith) p ∙ sym (rw (eq-eqb _ _ e))

  pub second_sent : (r.role ≡ 0 → ⊥) → t ≡ pasted z 0 (take 9 (drop 9 r.identifier)) → t ≡ sent_half r
  unfolding sent_half
  second_sent e p = half_fills 9 (omega arith) p ∙ sym (rw (ne_eqb _ _ e))

-- the TEP of the record in hand
module _ (hand : InHand) where
  pub not_in_hand : hand.held ≡ false → (t : ℕ) → false ≡ of_hand (in_hand hand) t
  unfolding of_hand
  not_in_hand held t = rw (nothing_held hand held)

  pub in_hand_lem : hand.held ≡ true → (t : ℕ) → eqb t hand.session.tep ≡ of_hand (in_hand hand) t
  unfolding of_hand
  in_hand_lem held t = rw (is_held_lem hand held)
