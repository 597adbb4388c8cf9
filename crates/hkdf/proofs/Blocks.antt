-- The blocks of an expansion, one law a turn. Assumes nothing.
use Prim.Native.Nat.{ℕ, suc, ◌+◌, ◌-◌, ◌*◌, ◌/◌, ◌^◌, ◌≤◌, ◌<◌}
use mathlib.Core.Path.{◌≡◌, refl, sym, ◌∙◌, ap, ap₂}
use mathlib.Core.List.{List, [], ◌∷◌, ◌++◌, append-nil}
use native.Mathlib.Omega.{arith}
use native.Mathlib.Decide.{dec_lt}
use borrow.Author.Tests.{lt-ltb, le-ltb}
use lib.ListN.{length, take, length-append}
use lib.Seq.{length-take-le, take_all, take-append-add}
use Rattle.wire.specs.Bytes.{pasted}
use Rattle.wire.specs.ByteLaws.{pasted_fits, pasted_twice, length_pasted}
use Rattle.refusals.specs.Rows.{refusal}
use Rattle.std.specs.Prelude.{Result, Ok}
use Rattle.hash_layout.specs.declared.TooLong.{TooLong}
use Rattle.hash_layout.proofs.Answers.{hashed_tells}
use Rattle.hash_layout.specs.Hmac.{hmac}
use Rattle.hash_layout.specs.Hkdf.{hkdf_t, okm, hkdf_expand}
use Rattle.hash_layout.proofs.Lengths.{length_okm}
use Rattle.hash_layout.specs.Outcome.{unless}
use Rattle.hash_layout.specs.Calls.{mac, longest, too_long, mac_too_long, digest, outcome}
use Rattle.hash_layout.specs.Answers.{hash_told, hash_bytes}
use Rattle.hkdf.specs.Expanding.{Fits, least_of}

-- a MAC over few enough bytes is made
mac_is : (key text : List ℕ) → length key ≤ 64 → 64 + length text < 2 ^ 61 → outcome (mac key text) ≡ digest (hmac key text)
unfolding outcome unless refusal mac_too_long too_long longest
mac_is key text h l = rw (le-ltb (2 ^ 61 - 1) (length key) (omega arith), le-ltb (2 ^ 61 - 1) (64 + length text) (omega arith))

pub block_made : (prk last info c : List ℕ) (r : Result (List ℕ) TooLong) → length prk ≤ 64 → 64 + (length last + (length info + length c)) < 2 ^ 61
    → hash_told r ≡ outcome (mac prk (last ++ (info ++ (c ++ [])))) → r ≡ Ok (hmac prk (last ++ (info ++ c)))
unfolding digest
block_made prk last info c r h l e =
    let n : length (last ++ (info ++ (c ++ []))) ≡ length last + (length info + length c) =
    length-append last (info ++ (c ++ []))
    ∙ ap (λ k. length last + k) (length-append info (c ++ []) ∙ ap (λ k. length info + k) (ap length (append-nil c)))
    in
    hashed_tells r (Ok (hmac prk (last ++ (info ++ c))))
    (e ∙ (mac_is prk (last ++ (info ++ (c ++ []))) h (omega arith)
    ∙ ap (λ (x : List ℕ). hash_told (Ok (hmac prk (last ++ (info ++ x))))) (append-nil c)))

pub ok_bytes : (d e : List ℕ) → ◌≡◌ {A = Result (List ℕ) TooLong} (Ok d) (Ok e) → d ≡ e
ok_bytes d e p = ap hash_bytes p

-- how many bytes of a block are written
pub least_full : (n : ℕ) → 32 < n → 32 ≡ least_of n
unfolding least_of
least_full n h = rw (lt-ltb 32 n h)

pub least_part : (n : ℕ) → n ≤ 32 → n ≡ least_of n
unfolding least_of
least_part n h = rw (le-ltb 32 n h)

pub record Least (n r : ℕ) : Type 0 where
  pub small : r ≤ 32
  pub within : r ≤ n
  pub some_left : 0 < n → 0 < r
  pub full : r < n → r ≡ 32

pub least_is : (n r : ℕ) → r ≡ least_of n → Least n r
least_is n r e = elim (dec_lt 32 n) [
  | yes h ↦
      let q : r ≡ 32 = e ∙ sym (least_full n h) in
      record { small = omega arith; within = omega arith; some_left = λ p. omega arith; full = λ p. q }
  | no h ↦
      let q : r ≡ n = e ∙ sym (least_part n (omega arith)) in
      record { small = omega arith; within = omega arith; some_left = λ p. omega arith; full = λ p. absurd (omega arith) }
]

-- `at` bytes stand at the front of o, which was s; t begins with the last T, of n bytes
pub record Out (prk info : List ℕ) (size : ℕ) (s o t : List ℕ) (n at : ℕ) : Type 0 where
  pub size_t : length t ≡ 32
  pub blocks : ℕ
  pub within : at ≤ size
  pub whole : at < size → at ≡ blocks * 32
  pub most : at ≤ blocks * 32
  pub least : blocks * 32 < at + 32
  pub last : take n t ≡ hkdf_t prk info blocks
  pub at_most : n ≤ 32
  pub used : at < size → n ≤ at
  pub out : o ≡ pasted s 0 (take at (okm prk info blocks))

pub out_start : (prk info s t : List ℕ) (size : ℕ) → length t ≡ 32 → Out prk info size s s t 0 0
unfolding hkdf_t okm
out_start prk info s t size l =
    record {
      size_t = l;
      blocks = 0;
      within = omega arith;
      whole = λ h. refl;
      most = omega arith;
      least = omega arith;
      last = refl;
      at_most = omega arith;
      used = λ h. omega arith;
      out = sym (pasted_fits s 0 [] (omega arith));
    }

pub out_long : (prk info s o t : List ℕ) (size n at : ℕ) → Out prk info size s o t n at → length o ≡ length s
out_long prk info s o t size n at x = ap length x.out ∙ length_pasted s 0 (take at (okm prk info x.blocks))

-- the hash of the next block is not too long
pub out_fits : (prk info s o t : List ℕ) (size n at : ℕ) → Out prk info size s o t n at → at < size → Fits prk info size s → 64 + (n + (length info + 1)) < 2 ^ 61
out_fits prk info s o t size n at x h f = elim (dec_lt 32 size) [
  | yes l ↦ let q = f.more l in omega (arith, x.at_most)
  | no l ↦
      let q = f.first (omega arith) in
      let u = x.used h in
      let w = x.whole h in
      omega arith
]

module _ (prk info s o t t' o' c : List ℕ) (size n at m : ℕ) (x : Out prk info size s o t n at) (h : at < size) (room : size ≤ length s) where
  pub out_next : t' ≡ hmac prk (take n t ++ (info ++ c)) → c ≡ (at / 32 + 1) ∷ [] → length t' ≡ 32 → Least (size - at) m → o' ≡ pasted o at (take m t')
      → Out prk info size s o' t' 32 (at + m)
  unfolding hkdf_t okm
  out_next et ec lt l eo =
      let w : at ≡ x.blocks * 32 = x.whole h in
      let q : at / 32 + 1 ≡ suc x.blocks = omega (arith, w) in
      let tt' : t' ≡ hkdf_t prk info (suc x.blocks) = et ∙ rw (x.last, ec, q) in
      let lk : length (okm prk info x.blocks) ≡ at = length_okm prk info x.blocks ∙ sym w in
      let small = l.small in
      let inside = l.within in
      let pos = l.some_left (omega arith) in
      let lv : length (take m t') ≡ m = length-take-le m t' (omega arith) in
      let keep : take at (okm prk info x.blocks) ≡ okm prk info x.blocks = take_all at (okm prk info x.blocks) (omega arith) in
      let front : o ≡ pasted s 0 (okm prk info x.blocks) = x.out ∙ ap (pasted s 0) keep in
      let place : at ≡ 0 + length (okm prk info x.blocks) = omega arith in
      let right : take (at + m) (okm prk info x.blocks ++ hkdf_t prk info (suc x.blocks)) ≡ okm prk info x.blocks ++ take m (hkdf_t prk info (suc x.blocks)) =
      ap (λ (k : ℕ). take (k + m) (okm prk info x.blocks ++ hkdf_t prk info (suc x.blocks))) (sym lk) ∙ take-append-add (okm prk info x.blocks) (hkdf_t prk info (suc x.blocks)) m
      in
      record {
        size_t = lt;
        blocks = suc x.blocks;
        within = omega arith;
        whole = λ p. let f = l.full (omega arith) in omega arith;
        most = omega arith;
        least = omega arith;
        last = take_all 32 t' (omega arith) ∙ tt';
        at_most = omega arith;
        used = λ p. let f = l.full (omega arith) in omega arith;
        out =
            eo
            ∙ (ap₂ (λ (y : List ℕ) (k : ℕ). pasted y k (take m t')) front place
            ∙ (pasted_twice s (okm prk info x.blocks) (take m t') 0 (omega arith)
            ∙ (ap (λ (y : List ℕ). pasted s 0 (okm prk info x.blocks ++ take m y)) tt' ∙ ap (pasted s 0) (sym right))));
      }

pub out_done : (prk info s o t : List ℕ) (size n at : ℕ) → Out prk info size s o t n at → size ≤ at → o ≡ pasted s 0 (hkdf_expand prk info size)
unfolding hkdf_expand
out_done prk info s o t size n at x h =
    let e : at ≡ size = omega (arith, x.within) in
    let b : x.blocks ≡ (size + 31) / 32 = omega (arith, x.most, x.least) in
    x.out ∙ ap₂ (λ (k i : ℕ). pasted s 0 (take k (okm prk info i))) e b
