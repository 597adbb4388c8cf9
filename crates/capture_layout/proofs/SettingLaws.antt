-- A setting means its layout, both ways: bytes are read as a setting exactly where they are the setting's encoding. Assumes nothing.
use Rattle.std.specs.Prelude.{ℕ, zero, suc, ◌+◌, ◌/◌, ◌%◌, ◌≤◌, ◌<◌, ◌≡◌, refl, List, [], ◌∷◌, ◌++◌, Bool, true, false, cond, ◌&&◌, ◌↔◌, ltb, leb, eqb, get_or, drop}
use Rattle.std.proofs.Common.{sym, ◌∙◌, subst, append-nil, add-zero, mod-lt, lit<, length-drop, take-append-drop, take_all, take_at, drop_at, get_or-append-add, drop-cons, drop-drop, length-take-le}
use Rattle.std.proofs.Math.Path.{ap}
use Rattle.std.proofs.lemmas.Bool.{false≢true}
use Rattle.std.proofs.Math.Option.{Option, none, some}
use native.Mathlib.Omega.{arith}
use borrow.Author.Tests.{ltb-true, eqb-true, lt-ltb, le-leb, eq-eqb}
use Rattle.std.proofs.Math.ListN.{length, take, length-append}
use Rattle.std.proofs.Math.Seq.{take-append_seam, drop-append-add}
use Rattle.wire.specs.Bytes.{part}
use Rattle.eno.proofs.Laws.Asked.{and_true}
use Rattle.eno.specs.declared.SessionRecord.{SessionRecord}
use Rattle.capture_layout.specs.Setting.{SettingValue, bit_with, is_some, setting_bits, record_bytes, encode_setting, record_at, is_held, setting_length, is_setting, value_in, setting_of}
use Rattle.capture_layout.specs.SettingLaws.{RecordFits, Proper}

-- the first byte, bit by bit
record BitsRead (b : ℕ) (aware mandatory held : Bool) (x : ℕ) : Type 0 where
  small : x < 16
  bit0 : x % 2 ≡ b
  bit1 : eqb (x / 2 % 2) 1 ≡ aware
  bit2 : eqb (x / 4 % 2) 1 ≡ mandatory
  bit3 : eqb (x / 8 % 2) 1 ≡ held

bits_read : (b : ℕ) (aware mandatory held : Bool) → b ≤ 1 → BitsRead b aware mandatory held (setting_bits b aware mandatory held)
unfolding setting_bits
bits_read zero true true true l = record { small = lit< tt; bit0 = refl; bit1 = refl; bit2 = refl; bit3 = refl }
bits_read zero true true false l = record { small = lit< tt; bit0 = refl; bit1 = refl; bit2 = refl; bit3 = refl }
bits_read zero true false true l = record { small = lit< tt; bit0 = refl; bit1 = refl; bit2 = refl; bit3 = refl }
bits_read zero true false false l = record { small = lit< tt; bit0 = refl; bit1 = refl; bit2 = refl; bit3 = refl }
bits_read zero false true true l = record { small = lit< tt; bit0 = refl; bit1 = refl; bit2 = refl; bit3 = refl }
bits_read zero false true false l = record { small = lit< tt; bit0 = refl; bit1 = refl; bit2 = refl; bit3 = refl }
bits_read zero false false true l = record { small = lit< tt; bit0 = refl; bit1 = refl; bit2 = refl; bit3 = refl }
bits_read zero false false false l = record { small = lit< tt; bit0 = refl; bit1 = refl; bit2 = refl; bit3 = refl }
bits_read (suc zero) true true true l = record { small = lit< tt; bit0 = refl; bit1 = refl; bit2 = refl; bit3 = refl }
bits_read (suc zero) true true false l = record { small = lit< tt; bit0 = refl; bit1 = refl; bit2 = refl; bit3 = refl }
bits_read (suc zero) true false true l = record { small = lit< tt; bit0 = refl; bit1 = refl; bit2 = refl; bit3 = refl }
bits_read (suc zero) true false false l = record { small = lit< tt; bit0 = refl; bit1 = refl; bit2 = refl; bit3 = refl }
bits_read (suc zero) false true true l = record { small = lit< tt; bit0 = refl; bit1 = refl; bit2 = refl; bit3 = refl }
bits_read (suc zero) false true false l = record { small = lit< tt; bit0 = refl; bit1 = refl; bit2 = refl; bit3 = refl }
bits_read (suc zero) false false true l = record { small = lit< tt; bit0 = refl; bit1 = refl; bit2 = refl; bit3 = refl }
bits_read (suc zero) false false false l = record { small = lit< tt; bit0 = refl; bit1 = refl; bit2 = refl; bit3 = refl }
bits_read (suc (suc b)) aware mandatory held l = absurd (omega arith)

bits_whole : (x : ℕ) → x < 16 → setting_bits (x % 2) (eqb (x / 2 % 2) 1) (eqb (x / 4 % 2) 1) (eqb (x / 8 % 2) 1) ≡ x
unfolding setting_bits
bits_whole zero h = refl
bits_whole (suc zero) h = refl
bits_whole (suc (suc zero)) h = refl
bits_whole (suc (suc (suc zero))) h = refl
bits_whole (suc (suc (suc (suc zero)))) h = refl
bits_whole (suc (suc (suc (suc (suc zero))))) h = refl
bits_whole (suc (suc (suc (suc (suc (suc zero)))))) h = refl
bits_whole (suc (suc (suc (suc (suc (suc (suc zero))))))) h = refl
bits_whole (suc (suc (suc (suc (suc (suc (suc (suc zero)))))))) h = refl
bits_whole (suc (suc (suc (suc (suc (suc (suc (suc (suc zero))))))))) h = refl
bits_whole (suc (suc (suc (suc (suc (suc (suc (suc (suc (suc zero)))))))))) h = refl
bits_whole (suc (suc (suc (suc (suc (suc (suc (suc (suc (suc (suc zero))))))))))) h = refl
bits_whole (suc (suc (suc (suc (suc (suc (suc (suc (suc (suc (suc (suc zero)))))))))))) h = refl
bits_whole (suc (suc (suc (suc (suc (suc (suc (suc (suc (suc (suc (suc (suc zero))))))))))))) h = refl
bits_whole (suc (suc (suc (suc (suc (suc (suc (suc (suc (suc (suc (suc (suc (suc zero)))))))))))))) h = refl
bits_whole (suc (suc (suc (suc (suc (suc (suc (suc (suc (suc (suc (suc (suc (suc (suc zero))))))))))))))) h = refl
bits_whole (suc (suc (suc (suc (suc (suc (suc (suc (suc (suc (suc (suc (suc (suc (suc (suc x)))))))))))))))) h = absurd (omega arith)

-- the record that stands behind two bytes more
record_two : (y m n : ℕ) (t : List ℕ) → record_at (y ∷ m ∷ t) (2 + n) ≡ record_at t n
unfolding record_at part
record_two y m n t =
    let e₀ : 2 + n ≡ suc (suc n) = omega arith in
    let e₁ : 2 + n + 1 ≡ suc (suc (n + 1)) = omega arith in
    let e₂ : 2 + n + 2 ≡ suc (suc (n + 2)) = omega arith in
    let e₃ : 2 + n + 20 ≡ suc (suc (n + 20)) = omega arith in
    λ i. record { tep = get_or (y ∷ m ∷ t) (e₀ i) 0; role = get_or (y ∷ m ∷ t) (e₁ i) 0; identifier = take 18 (drop (e₂ i) (y ∷ m ∷ t)); secret = take 32 (drop (e₃ i) (y ∷ m ∷ t)) }

hand_length : (h : Option SessionRecord) → RecordFits h → length (record_bytes h) ≡ bit_with 52 (is_some h)
unfolding record_bytes
hand_length none f = refl
hand_length (some r) f = omega (arith, length-append r.identifier r.secret, f.0, f.1)

-- the record behind the TEPs
record_behind : (teps : List ℕ) (r : SessionRecord) → RecordFits (some r) → record_at (teps ++ record_bytes (some r)) (length teps) ≡ r
unfolding record_at record_bytes part
record_behind teps r f =
    let n = length teps in
    let back = r.identifier ++ r.secret in
    let all = r.tep ∷ r.role ∷ back in
    let first : get_or (teps ++ all) n 0 ≡ r.tep = ap (λ k. get_or (teps ++ all) k 0) (sym (add-zero n)) ∙ get_or-append-add teps all 0 0 in
    let second : get_or (teps ++ all) (n + 1) 0 ≡ r.role = get_or-append-add teps all 1 0 in
    let third : take 18 (drop (n + 2) (teps ++ all)) ≡ r.identifier = ap (take 18) (drop-append-add teps all 2) ∙ take_at r.identifier r.secret 18 f.0 in
    let fourth : take 32 (drop (n + 20) (teps ++ all)) ≡ r.secret =
    ap (take 32) (drop-append-add teps all 20 ∙ drop_at r.identifier r.secret 18 f.0) ∙ take_all 32 r.secret (omega (arith, f.1)) in
    λ i. record { tep = first i; role = second i; identifier = third i; secret = fourth i }

hand_behind : (y : ℕ) (teps : List ℕ) (h : Option SessionRecord) → RecordFits h → (held : Bool) → held ≡ is_some h
    → cond held (some (record_at (y ∷ length teps ∷ (teps ++ record_bytes h)) (2 + length teps))) none ≡ h
hand_behind y teps none f held e = rw e
hand_behind y teps (some r) f held e =
    ap (λ b. cond b (some (record_at (y ∷ length teps ∷ (teps ++ record_bytes (some r))) (2 + length teps))) none) e
    ∙ ap some (record_two y (length teps) (length teps) (teps ++ record_bytes (some r)) ∙ record_behind teps r f)

module _ (x : SettingValue) (p : Proper x) where
  bits : BitsRead x.b x.aware x.mandatory (is_some x.hand) (setting_bits x.b x.aware x.mandatory (is_some x.hand))
  bits = bits_read x.b x.aware x.mandatory (is_some x.hand) p.role

  is_encoded : is_setting (encode_setting x) ≡ true
  unfolding is_setting encode_setting setting_length
  is_encoded =
      let r = record_bytes x.hand in
      let two : 2 ≤ length (encode_setting x) = omega arith in
      let long : length (encode_setting x) ≡ setting_length (encode_setting x) =
      omega (arith, length-append x.teps r, hand_length x.hand p.fits, ap (λ b. bit_with 52 b) bits.bit3) in
      rw (lt-ltb _ _ bits.small, le-leb _ _ two, eq-eqb _ _ long)

  values : value_in (encode_setting x) ≡ x
  unfolding value_in encode_setting part
  values =
      let y = setting_bits x.b x.aware x.mandatory (is_some x.hand) in
      let fourth : take (length x.teps) (x.teps ++ record_bytes x.hand) ≡ x.teps = take-append_seam x.teps (record_bytes x.hand) in
      let fifth = hand_behind y x.teps x.hand p.fits (eqb (y / 8 % 2) 1) bits.bit3 in
      λ i. record { b = bits.bit0 i; aware = bits.bit1 i; mandatory = bits.bit2 i; teps = fourth i; hand = fifth i }

  pub is_setting_lem : setting_of (encode_setting x) ≡ some x
  unfolding setting_of
  is_setting_lem = rw is_encoded (ap some values)

-- bytes that are read are an encoding
held_some : (held : Bool) (r : SessionRecord) → is_some (cond held (some r) none) ≡ held
held_some true r = refl
held_some false r = refl

hand_is : (m : ℕ) (t : List ℕ) (held : Bool) → length t ≡ m + bit_with 52 held
    → (take m t ++ record_bytes (cond held (some (record_at t m)) none) ≡ t) × RecordFits (cond held (some (record_at t m)) none)
unfolding record_bytes record_at part
hand_is m t false e = (append-nil (take m t) ∙ take_all m t (omega arith), tt)
hand_is m t true e =
    let one : drop m t ≡ get_or t m 0 ∷ drop (suc m) t = drop-cons t m 0 (omega arith) in
    let k₁ : suc m ≡ m + 1 = omega arith in
    let k₂ : suc (m + 1) ≡ m + 2 = omega arith in
    let two : drop (suc m) t ≡ get_or t (m + 1) 0 ∷ drop (m + 2) t = ap (λ k. drop k t) k₁ ∙ (drop-cons t (m + 1) 0 (omega arith) ∙ ap (λ k. get_or t (m + 1) 0 ∷ drop k t) k₂) in
    let k₃ : m + 2 + 18 ≡ m + 20 = omega arith in
    let last : take 32 (drop (m + 20) t) ≡ drop (m + 20) t = take_all 32 (drop (m + 20) t) (omega (arith, length-drop (m + 20) t)) in
    let three : take 18 (drop (m + 2) t) ++ take 32 (drop (m + 20) t) ≡ drop (m + 2) t =
    ap (λ l. take 18 (drop (m + 2) t) ++ l) (last ∙ (ap (λ k. drop k t) (sym k₃) ∙ sym (drop-drop 18 (m + 2) t))) ∙ take-append-drop 18 (drop (m + 2) t) in (
      ap (λ l. take m t ++ get_or t m 0 ∷ get_or t (m + 1) 0 ∷ l) three ∙ (ap (λ l. take m t ++ get_or t m 0 ∷ l) (sym two) ∙ (ap (λ l. take m t ++ l) (sym one) ∙ take-append-drop m t)),
      (length-take-le 18 (drop (m + 2) t) (omega (arith, length-drop (m + 2) t)), length-take-le 32 (drop (m + 20) t) (omega (arith, length-drop (m + 20) t))),
    )

mod_two : (n : ℕ) → n % 2 ≤ 1
mod_two n = let h = mod-lt n {m = 2} (omega arith) in omega arith

setting_encoded : (s : List ℕ) → is_setting s ≡ true → (s ≡ encode_setting (value_in s)) × Proper (value_in s)
unfolding is_setting encode_setting value_in setting_length part
setting_encoded [] e = absurd (false≢true e)
setting_encoded (y ∷ []) e = absurd (false≢true e)
setting_encoded (y ∷ m ∷ t) e =
    let h = and_true (leb 2 (length (y ∷ m ∷ t)) && ltb y 16) (eqb (length (y ∷ m ∷ t)) (setting_length (y ∷ m ∷ t))) e in
    let small : y < 16 = ltb-true _ _ (and_true (leb 2 (length (y ∷ m ∷ t))) (ltb y 16) h.0).1 in
    let held = is_held (y ∷ m ∷ t) in
    let all : length (y ∷ m ∷ t) ≡ setting_length (y ∷ m ∷ t) = eqb-true (length (y ∷ m ∷ t)) (setting_length (y ∷ m ∷ t)) h.1 in
    let long : length t ≡ m + bit_with 52 held = omega arith in
    let r = record_at (y ∷ m ∷ t) (2 + m) in
    let back = subst (λ q. (take m t ++ record_bytes (cond held (some q) none) ≡ t) × RecordFits (cond held (some q) none)) (sym (record_two y m m t)) (hand_is m t held long) in
    let first : setting_bits (y % 2) (eqb (y / 2 % 2) 1) (eqb (y / 4 % 2) 1) (is_some (cond held (some r) none)) ≡ y =
    ap (setting_bits (y % 2) (eqb (y / 2 % 2) 1) (eqb (y / 4 % 2) 1)) (held_some held r) ∙ bits_whole y small in
    let second : length (take m t) ≡ m = length-take-le m t (omega arith) in
    (λ i. sym first i ∷ sym second i ∷ sym back.0 i, record { role = mod_two y; fits = back.1 })

setting_of_lem : (s : List ℕ) (x : SettingValue) (b : Bool) → is_setting s ≡ b → cond b (some (value_in s)) none ≡ some x → (s ≡ encode_setting x) × Proper x
setting_of_lem s x false e q = let z : ◌≡◌ {A = ℕ} 0 1 = cc in absurd (omega arith)
setting_of_lem s x true e q =
    let same : value_in s ≡ x = cc in
    let g = setting_encoded s e in
    (g.0 ∙ ap encode_setting same, subst Proper same g.1)

pub setting_is : (s : List ℕ) (x : SettingValue) → setting_of s ≡ some x → (s ≡ encode_setting x) × Proper x
unfolding setting_of
setting_is s x e = setting_of_lem s x (is_setting s) refl e

-- bytes are read as the setting x exactly where they are its encoding
pub setting_means : (s : List ℕ) (x : SettingValue) → (setting_of s ≡ some x) ↔ ((s ≡ encode_setting x) × Proper x)
setting_means s x = (setting_is s x, λ h. ap setting_of h.0 ∙ is_setting_lem x h.1)
