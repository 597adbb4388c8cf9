-- Laws of a whole offer: what its tests tell, where each part is put, and that the bytes are those of the option.
use Rattle.std.specs.Prelude.{ℕ, ◌+◌, ◌-◌, ◌≤◌, ◌≡◌, refl, List, [], ◌∷◌, ◌++◌, Bool, true, false}
use Rattle.std.proofs.Math.Path.{sym, ap}
use Rattle.std.proofs.Common.{◌∙◌, append_assoc}
use Rattle.std.proofs.Math.Option.{Option, none, some}
use native.Mathlib.Omega.{arith}
use Rattle.std.proofs.Math.ListN.{length, take, length-append}
use Rattle.wire.specs.Bytes.{part}
use Rattle.wire.specs.ByteLaws.{part_pasted}
use Rattle.eno.specs.Area.{eno_kind}
use Rattle.eno.specs.Option.{Content, encode, encode_all, option_with, global_of, global_part, fresh_part, fresh_teps, last_part, offered, offer_fits, Written, written_as, refused_with, write_option, write_offer}
use Rattle.eno.specs.Laws.Asked.{OfTep}
use Rattle.eno.proofs.Laws.Asked.{fits, offer_may_be_asked}
use Rattle.eno.specs.declared.SessionRecord.{SessionRecord}
use Rattle.option_layout.specs.Puts.{Puts}
use Rattle.option_layout.specs.PutLaws.{puts_both, puts_length}
use Rattle.option_layout.specs.Steps.{HasRoomForV, MayPutLast, write_bytes}

-- a TEP that the unit knows has room for v
has_room : (hand : Option SessionRecord) → OfTep hand → HasRoomForV hand
has_room none h = tt
has_room (some r) h = omega arith

-- what the tests of an offer tell
module _ (b : ℕ) (list : List ℕ) (hand : Option SessionRecord) (nonce : List ℕ) (fit : offer_fits b list hand nonce ≡ true) where
  pub role_fits : b ≤ 1
  role_fits = (fits b list hand nonce fit).one

  hand_fits : HasRoomForV hand
  hand_fits = has_room hand (fits b list hand nonce fit).of_these

-- the bytes of suboptions after others, and of fresh TEPs
encode_append : (a b : List Content) → encode_all (a ++ b) ≡ encode_all a ++ encode_all b
unfolding encode_all
encode_append [] b = refl
encode_append (c ∷ a) b = ap (λ l. encode c ++ l) (encode_append a b) ∙ sym (append_assoc (encode c) (encode_all a) (encode_all b))

encode_fresh : (l : List ℕ) → encode_all (fresh_part l) ≡ l
unfolding encode_all encode fresh_part
encode_fresh [] = refl
encode_fresh (t ∷ l) = ap (λ m. t ∷ m) (encode_fresh l)

-- the first n bytes of u are an offer's contents
pub record AllPut (b : ℕ) (aware : Bool) (list : List ℕ) (hand : Option SessionRecord) (nonce u : List ℕ) (n : ℕ) : Type 0 where
  pub within : n ≤ length u
  pub short : length (take (n - 0) u) ≤ 38
  pub written : (o : List ℕ) (w : Written) → w ≡ write_bytes (eno_kind ∷ (length (take (n - 0) u) + 2) ∷ take (n - 0) u) o → w ≡ write_offer b aware list hand nonce o

module _ (b : ℕ) (aware : Bool) (list : List ℕ) (hand : Option SessionRecord) (nonce : List ℕ) where
  abbrev first : List ℕ
  first = encode_all (global_part (global_of b aware))

  abbrev fresh : List ℕ
  fresh = fresh_teps hand list

  abbrev last : List ℕ
  last = encode_all (last_part hand nonce)

  abbrev asked : List Content
  asked = offered b aware list hand nonce

  pub offer_unfit : (s : List ℕ) → offer_fits b list hand nonce ≡ false → written_as (refused_with 3) s ≡ write_offer b aware list hand nonce s
  unfolding write_offer write_option
  offer_unfit s e = rw e

  offer_bytes : encode_all asked ≡ first ++ fresh ++ last
  unfolding offered
  offer_bytes =
      encode_append (global_part (global_of b aware)) (fresh_part fresh ++ last_part hand nonce)
      ∙ (ap (λ l. first ++ l) (encode_append (fresh_part fresh) (last_part hand nonce) ∙ ap (λ l. l ++ last) (encode_fresh fresh))
      ∙ sym (append_assoc first fresh last))

  module _ (fit : offer_fits b list hand nonce ≡ true) where
    offer_length : length first + length fresh + length last ≤ 38
    unfolding option_with
    offer_length =
        omega (
          arith,
          (offer_may_be_asked b aware list hand nonce fit).short,
          ap length offer_bytes,
          length-append (first ++ fresh) last,
          length-append first fresh,
        )

    -- the parts, one after another, in a buffer of 40 bytes
    module _ (z : List ℕ) (forty : length z ≡ 40) (g : ℕ) (is_global : g ≡ global_of b aware) (s : List ℕ) (at : ℕ) (p : Puts z 0 (encode_all (global_part g)) s at) where
      global_put : Puts z 0 first s at
      global_put = rw is_global at p

      pub fresh_fits : at + length fresh ≤ length s
      fresh_fits = omega (arith, offer_length, puts_length z first s 0 at global_put, global_put.next)

      module _ (t : List ℕ) (next : ℕ) (q : Puts s at fresh t next) where
        pub last_fits : MayPutLast hand nonce t next
        last_fits = record {
          tep = hand_fits b list hand nonce fit;
          room = omega (arith, offer_length, fresh_fits, puts_length z first s 0 at global_put, puts_length s fresh t at next q, global_put.next, q.next);
        }

        module _ (u : List ℕ) (n : ℕ) (r : Puts t next last u n) where
          all_put : Puts z 0 (encode_all asked) u n
          all_put =
              rw offer_bytes
              (puts_both z (first ++ fresh) t last u 0 next n (omega (arith, offer_length, length-append first fresh))
              (puts_both z first s fresh t 0 at next (omega (arith, offer_length)) global_put q) r)

          few : n ≤ 38
          few = omega (arith, offer_length, global_put.next, q.next, r.next)

          contents_are : take (n - 0) u ≡ encode_all asked
          unfolding part
          contents_are =
              let k : n - 0 ≡ length (encode_all asked) = omega (arith, all_put.next) in
              ap (λ m. take m u) k
              ∙ (ap (λ l. take (length (encode_all asked)) l) all_put.bytes
              ∙ part_pasted z 0 (encode_all asked) (omega (arith, few)))

          pub contents_put : AllPut b aware list hand nonce u n
          unfolding write_offer write_option option_with write_bytes
          contents_put = record {
            within = omega (arith, few, puts_length z (encode_all asked) u 0 n all_put);
            short = omega (arith, few, ap length contents_are, all_put.next);
            written = λ o w e. e ∙ (ap (λ l. write_bytes (eno_kind ∷ (length l + 2) ∷ l) o) contents_are ∙ sym (rw fit));
          }
