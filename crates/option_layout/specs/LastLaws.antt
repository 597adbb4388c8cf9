-- Laws of the global byte with and without a, and of the suboption of the record in hand.
use Rattle.std.specs.Prelude.{ℕ, ◌+◌, ◌≤◌, ◌<◌, ◌≡◌, refl, List, [], ◌∷◌, ◌++◌, Bool, true, false, length}
use Rattle.std.proofs.Common.{sym, ◌∙◌, append-nil, add-zero, arith, length-append}
use Rattle.std.proofs.Math.Path.{ap}
use Rattle.wire.specs.Bytes.{pasted}
use Rattle.eno.specs.Session.{in_hand, sent_half}
use Rattle.eno.specs.Option.{encode, encode_all, global_of, resumption_part, last_part}
use Rattle.eno.proofs.Laws.Held.{nothing_held, is_held_lem}
use Rattle.eno.specs.declared.InHand.{InHand}
use Rattle.option_layout.specs.Puts.{Puts}
use Rattle.option_layout.specs.PutLaws.{puts_none, puts_both}
use Rattle.option_layout.specs.Steps.{HasRoomForV}

-- the global byte
module _ (b : ℕ) (aware : Bool) where
  pub with_a : aware ≡ true → b + 2 ≡ global_of b aware
  unfolding global_of
  with_a e = simp e

  pub without_a : aware ≡ false → b ≡ global_of b aware
  unfolding global_of
  without_a e = simp (e, add-zero)

-- the suboption of the record in hand
module _ (hand : InHand) where
  pub has_room_for_v : hand.held ≡ true → HasRoomForV (in_hand hand) → hand.session.tep < 0x80
  has_room_for_v held h = rw (is_held_lem hand held) at h

  pub puts_no_last : hand.held ≡ false → (s : List ℕ) (at : ℕ) (nonce : List ℕ) → Puts s at (encode_all (last_part (in_hand hand) nonce)) s at
  unfolding last_part encode_all
  puts_no_last held s at nonce = rw (nothing_held hand held) (puts_none s at)

  -- the TEP with v, the half that is sent, the nonce
  module _ (held : hand.held ≡ true) (nonce half : List ℕ) (is-half : half ≡ sent_half hand.session) where
    last_bytes : encode_all (last_part (in_hand hand) nonce) ≡ ((hand.session.tep + 0x80) ∷ half) ++ nonce
    unfolding last_part resumption_part encode_all encode
    last_bytes =
        let x = hand.session.tep + 0x80 in
        ap (λ h. encode_all (last_part h nonce)) (is_held_lem hand held)
        ∙ (append-nil (x ∷ (sent_half hand.session ++ nonce)) ∙ ap (λ l. (x ∷ l) ++ nonce) (sym is-half))

    module _ (s : List ℕ) (at : ℕ) (nine : length half ≡ 9) (room : at + length (encode_all (last_part (in_hand hand) nonce)) ≤ length s) where
      pub last_room : at + 10 + length nonce ≤ length s
      last_room = omega (arith, ap length last_bytes, length-append half nonce)

      pub puts_last : (t u v : List ℕ) → t ≡ pasted s at ((hand.session.tep + 0x80) ∷ []) → u ≡ pasted t (at + 1) half → v ≡ pasted u (at + 10) nonce
          → Puts s at (encode_all (last_part (in_hand hand) nonce)) v (at + 10 + length nonce)
      puts_last t u v p q r =
          let x = hand.session.tep + 0x80 in
          let k = last_room in
          let first : Puts s at (x ∷ []) t (at + 1) = record { bytes = p; next = refl } in
          let second : Puts t (at + 1) half u (at + 10) = record { bytes = q; next = omega arith } in
          let third : Puts u (at + 10) nonce v (at + 10 + length nonce) = record { bytes = r; next = refl } in
          let two = puts_both s (x ∷ []) t half u at (at + 1) (at + 10) (omega arith) first second in
          rw last_bytes (puts_both s (x ∷ half) u nonce v at (at + 10) (at + 10 + length nonce) (omega arith) two third)
