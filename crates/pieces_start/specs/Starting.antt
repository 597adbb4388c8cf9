-- Laws of the starts: each way through their tests. Assumes nothing.
use Rattle.std.specs.Prelude.{ℕ, ◌+◌, ◌≤◌, ◌<◌, ◌≡◌, Bool, true, cond, ◌||◌, ltb, length}
use Rattle.std.proofs.Math.Path.{refl, ap, ap₂}
use Rattle.std.proofs.Common.{sym, ◌∙◌, arith, lt-ltb, le-ltb, eq-eqb, ne_eqb}
use mathlib.Core.List.{List, []}
use Rattle.std.proofs.Math.Bool.{false}
use Rattle.std.proofs.Math.Option.{none}
use Rattle.std.proofs.Math.Dec.{eqb}
use Rattle.wire.specs.Bytes.{pasted}
use Rattle.refusals.specs.Rows.{refusal}
use Rattle.eno.specs.Tep.{key_length}
use Rattle.init_layout.specs.Layout.{cipher_bytes}
use Rattle.init_layout.specs.declared.Enabled.{Enabled}
use Rattle.pieces_layout.specs.Reader.{reader_of, numbers_n, gathered_n, own_from, bits_of, become}
use Rattle.pieces_layout.specs.Starts.{Start, for_init1, for_init2, for_frames, begun_as, is_unfit, no_room_for, fresh, unless, start}
use Rattle.pieces_layout.specs.Answers.{begun_of}
use Rattle.pieces_layout.specs.declared.PieceStart.TheVariants as s
use Rattle.pieces_steps.specs.Numbers.{numbers_as}
use Rattle.pieces_steps.specs.NumberLaws.{as_become}

-- a bit's value
unfoldable pub bit_with : Bool → ℕ → ℕ
bit_with b n = cond b n 0

pub bit_on : (b : Bool) (n : ℕ) → b ≡ true → n ≤ 4 → (n ≡ bit_with b n) × (n ≤ 4)
unfolding bit_with
bit_on b n e h = (rw e, h)

pub bit_off : (b : Bool) (n : ℕ) → b ≡ false → (0 ≡ bit_with b n) × (0 ≤ 4)
unfolding bit_with
bit_off b n e = (rw e, omega arith)

pub bits_are : (e : Enabled) (x y z : ℕ) → x ≡ bit_with e.aes128 1 → y ≡ bit_with e.aes256 2 → z ≡ bit_with e.chacha20 4 → x + y + z ≡ bits_of e
unfolding bits_of bit_with
bits_are e x y z p q r = λ i. p i + q i + r i

-- 3, 5, and what a start does otherwise
module _ (k : Start) (w g : List ℕ) where
  begun_3 : is_unfit k ≡ true → begun_of s.Unfit w g ≡ start k (reader_of w g)
  unfolding start unless refusal
  begun_3 e = rw e

  begun_5 : is_unfit k ≡ false → no_room_for k (reader_of w g) ≡ true → begun_of s.NoRoom w g ≡ start k (reader_of w g)
  unfolding start unless refusal
  begun_5 e f = rw (e, f)

  begun_on : is_unfit k ≡ false → no_room_for k (reader_of w g) ≡ false → begun_as none (fresh k (reader_of w g)) ≡ start k (reader_of w g)
  unfolding start unless refusal
  begun_on e f = rw (e, f)

-- Init1
module _ (tep : ℕ) (enabled : Enabled) (w : List ℕ) (keys : ℕ) (is-keys : keys ≡ key_length tep) where
  unfit_is : (b : Bool) → eqb keys 0 ≡ b → is_unfit (for_init1 tep enabled) ≡ b
  unfolding is_unfit
  unfit_is b e = ap (λ n. eqb n 0) (sym is-keys) ∙ e

  pub one_unfit : keys ≡ 0 → begun_of s.Unfit w [] ≡ start (for_init1 tep enabled) (reader_of w [])
  one_unfit h = begun_3 (for_init1 tep enabled) w [] (unfit_is true (eq-eqb keys 0 h))

  module _ (fit : keys ≡ 0 → ⊥) where
    pub one_short : length w < 4 → begun_of s.NoRoom w [] ≡ start (for_init1 tep enabled) (reader_of w [])
    unfolding no_room_for numbers_n
    one_short h = begun_5 (for_init1 tep enabled) w [] (unfit_is false (ne_eqb keys 0 fit)) (lt-ltb (length w) 4 h)

    pub one_started : 4 ≤ length w → (first bits : ℕ) (after : List ℕ) → first ≡ tep → bits ≡ bits_of enabled → after ≡ numbers_as w 0 first bits 4
        → begun_of s.Started after [] ≡ start (for_init1 tep enabled) (reader_of w [])
    unfolding no_room_for numbers_n fresh
    one_started h first bits after p q e =
        ap (begun_as none) (ap (λ v. reader_of v []) e ∙ (as_become w [] 0 first bits 4 h ∙ (λ i. become (reader_of w []) 0 (p i) (q i) 4)))
        ∙ begun_on (for_init1 tep enabled) w [] (unfit_is false (ne_eqb keys 0 fit)) (le-ltb (length w) 4 h)

-- Init2
module _ (tep : ℕ) (own w g : List ℕ) (keys : ℕ) (is-keys : keys ≡ key_length tep) where
  two_is : (a b : Bool) → eqb keys 0 ≡ a → ltb 255 (length own) ≡ b → is_unfit (for_init2 tep own) ≡ (a || b)
  unfolding is_unfit
  two_is a b e f = ap₂ (λ x y. x || y) (ap (λ n. eqb n 0) (sym is-keys) ∙ e) f

  room_is : (a b : Bool) → ltb (length w) 4 ≡ a → ltb (length g) 4608 ≡ b → no_room_for (for_init2 tep own) (reader_of w g) ≡ (a || b)
  unfolding no_room_for numbers_n gathered_n
  room_is a b e f = ap₂ (λ x y. x || y) e f

  pub two_unfit : keys ≡ 0 → begun_of s.Unfit w g ≡ start (for_init2 tep own) (reader_of w g)
  two_unfit h = begun_3 (for_init2 tep own) w g (two_is true (ltb 255 (length own)) (eq-eqb keys 0 h) refl)

  module _ (fit : keys ≡ 0 → ⊥) where
    pub two_many : 255 < length own → begun_of s.Unfit w g ≡ start (for_init2 tep own) (reader_of w g)
    two_many h = begun_3 (for_init2 tep own) w g (two_is false true (ne_eqb keys 0 fit) (lt-ltb 255 (length own) h))

    module _ (few : length own ≤ 255) where
      fits : is_unfit (for_init2 tep own) ≡ false
      fits = two_is false false (ne_eqb keys 0 fit) (le-ltb 255 (length own) few)

      pub two_short : length w < 4 → begun_of s.NoRoom w g ≡ start (for_init2 tep own) (reader_of w g)
      two_short h = begun_5 (for_init2 tep own) w g fits (room_is true (ltb (length g) 4608) (lt-ltb (length w) 4 h) refl)

      module _ (four : 4 ≤ length w) where
        pub two_narrow : length g < 4608 → begun_of s.NoRoom w g ≡ start (for_init2 tep own) (reader_of w g)
        two_narrow h = begun_5 (for_init2 tep own) w g fits (room_is false true (le-ltb (length w) 4 four) (lt-ltb (length g) 4608 h))

        pub two_started : 4608 ≤ length g → (first second : ℕ) (after x : List ℕ) → first ≡ tep → second ≡ length own → x ≡ pasted g 4096 (cipher_bytes own) → after ≡ numbers_as w 0 first second 5
            → begun_of s.Started after x ≡ start (for_init2 tep own) (reader_of w g)
        unfolding fresh own_from
        two_started h first second after x p q ex e =
            ap (begun_as none) ((λ i. reader_of (e i) (ex i)) ∙ (as_become w (pasted g 4096 (cipher_bytes own)) 0 first second 5 four ∙ (λ i. become (reader_of w (pasted g 4096 (cipher_bytes own))) 0 (p i) (q i) 5)))
            ∙ begun_on (for_init2 tep own) w g fits (room_is false false (le-ltb (length w) 4 four) (le-ltb (length g) 4608 h))

-- frames
module _ (w : List ℕ) where
  pub frames_short : length w < 4 → begun_of s.NoRoom w [] ≡ start for_frames (reader_of w [])
  unfolding is_unfit no_room_for numbers_n
  frames_short h = begun_5 for_frames w [] refl (lt-ltb (length w) 4 h)

  pub frames_started : 4 ≤ length w → (after : List ℕ) → after ≡ numbers_as w 0 0 0 0 → begun_of s.Started after [] ≡ start for_frames (reader_of w [])
  unfolding is_unfit no_room_for numbers_n fresh
  frames_started h after e =
      ap (begun_as none) (ap (λ v. reader_of v []) e ∙ as_become w [] 0 0 0 0 h) ∙ begun_on for_frames w [] refl (le-ltb (length w) 4 h)
