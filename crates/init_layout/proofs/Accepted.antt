-- What an accepted Init1 or Init2 is, in document 01's words: a reader gives values exactly when the bytes at hand are a message with these values. Assumes nothing.
use Rattle.std.specs.Prelude.{ℕ, ◌+◌, ◌-◌, ◌≤◌, List, [], ◌∷◌, ◌++◌, Bool, ◌&&◌, ◌||◌, ◌⊎◌, ◌↔◌}
use Rattle.std.proofs.Math.Path.{◌≡◌, refl, sym, ap, subst}
use Rattle.std.proofs.Common.{◌∙◌, append-nil, inl, inr, eqb-true, eq-eqb, ne_eqb, ltb-false, le-ltb, length-append}
use Rattle.std.proofs.Math.Bool.{true, false, cond}
use Rattle.std.proofs.lemmas.Bool.{false≢true, eqb-false}
use Rattle.std.proofs.Math.Option.{Option, none, some}
use native.Mathlib.Omega.{arith}
use Rattle.std.proofs.Math.Dec.{ltb, eqb}
use Rattle.std.proofs.Math.ListN.{length}
use Rattle.wire.specs.Bytes.{Bytes}
use Rattle.wire.specs.Number.{big_endian}
use Rattle.wire.specs.NumberLaws.{length_big}
use Rattle.eno.specs.Tep.{key_length}
use Rattle.eno.specs.Option.{is_listed}
use Rattle.init_layout.specs.Layout.{Init, init1, init2, magic_of, Message, message_with, count_field, cipher_bytes, Ciphers, is_void, fields_of, length_of, encoded, most_length, Fits, Readable}
use Rattle.init_layout.proofs.LayoutLaws.{length_encoded}
use Rattle.init_layout.specs.Reading.{Standing, unreadable, incomplete, whole, standing_of, first_that, is_enabled, in_init1, took, refused_with, Reading, reading_as, refused_reading, padded, with_cipher, answer_to, read_as, reading, read_for, read_init1, read_init2}
use Rattle.init_layout.proofs.VoidLaws.{or_false}
use Rattle.init_layout.proofs.StandingOfLaws.{of_whole}
use Rattle.init_layout.proofs.ReadableLaws.{readable_reading, whole_readable}
use Rattle.init_layout.specs.declared.Enabled.{Enabled}
use Rattle.init_layout.specs.Accepted.{KeyOf, Enables, NoneEnabled, FirstEnabled, In, NoneVoid, init1_with, init2_with, Init1Taken, Init2Taken}

-- the layouts of both
layout1 : (m : Message) → encoded init1 m ≡ init1_with (length_of init1 m) (length m.ciphers) m.ciphers m.nonce m.key m.ignored
unfolding encoded fields_of magic_of count_field
layout1 m = refl

layout2 : (c : ℕ) (nonce key ignored : List ℕ) → let m = message_with (c ∷ []) nonce key ignored in encoded init2 m ≡ init2_with (length_of init2 m) c nonce key ignored
unfolding encoded fields_of magic_of count_field cipher_bytes
layout2 c nonce key ignored =
    let m = message_with (c ∷ []) nonce key ignored in
    ap (λ l. 0x09 ∷ 0x71 ∷ 0x05 ∷ 0xe0 ∷ (big_endian 4 (length_of init2 m) ++ (l ++ (nonce ++ (key ++ ignored))))) (append-nil (big_endian 2 c))

-- their lengths, whatever number stands in the length field
length1 : (n count : ℕ) (ciphers nonce key ignored : List ℕ) → length (init1_with n count ciphers nonce key ignored) ≡ length_of init1 (message_with ciphers nonce key ignored)
unfolding length_of fields_of count_field
length1 n count ciphers nonce key ignored =
    omega (arith, length-append (big_endian 4 n) (count ∷ (cipher_bytes ciphers ++ (nonce ++ (key ++ ignored)))), length_big 4 n)

length2 : (n c : ℕ) (nonce key ignored : List ℕ) → length (init2_with n c nonce key ignored) ≡ length_of init2 (message_with (c ∷ []) nonce key ignored)
unfolding length_of fields_of count_field cipher_bytes
length2 n c nonce key ignored =
    let e : length (big_endian 2 c ++ [] ++ (nonce ++ (key ++ ignored))) ≡ length (big_endian 2 c ++ (nonce ++ (key ++ ignored))) =
    ap (λ l. length (l ++ (nonce ++ (key ++ ignored)))) (append-nil (big_endian 2 c)) in
    omega (arith, e, length-append (big_endian 4 n) (big_endian 2 c ++ (nonce ++ (key ++ ignored))), length_big 4 n)

-- the key lengths
key_of : (t n : ℕ) → (key_length t ≡ 0 → ⊥) → n ≡ key_length t → KeyOf t n
unfolding key_length
key_of t n h e = go (eqb t 0x23) (eqb t 0x24) refl refl h e
  where
    go : (a b : Bool) → eqb t 0x23 ≡ a → eqb t 0x24 ≡ b → (◌≡◌ {A = ℕ} (cond a 32 (cond b 56 0)) 0 → ⊥) → n ≡ cond a 32 (cond b 56 0) → KeyOf t n
    go true b p q h e = inl (eqb-true _ _ p, e)
    go false true p q h e = inr (eqb-true _ _ q, e)
    go false false p q h e = absurd (h refl)

key_back : (t n : ℕ) → KeyOf t n → n ≡ key_length t
unfolding key_length
key_back t n (inl h) = h.1 ∙ sym (ap key_length h.0)
key_back t n (inr h) = h.1 ∙ sym (ap key_length h.0)

has_key : (t n : ℕ) → KeyOf t n → key_length t ≡ 0 → ⊥
has_key t n (inl h) z = omega (arith, h.1, key_back t n (inl h))
has_key t n (inr h) z = omega (arith, h.1, key_back t n (inr h))

-- the tests of ciphers
or_either : (a b : Bool) → a || b ≡ true → (a ≡ true) ⊎ (b ≡ true)
or_either true b e = inl refl
or_either false b e = inr e

or_right : (a b : Bool) → b ≡ true → a || b ≡ true
or_right true b e = refl
or_right false b e = e

both : (a b : Bool) → a && b ≡ true → (a ≡ true) × (b ≡ true)
both true b e = (refl, e)
both false b e = absurd (false≢true e)

enables : (e : Enabled) (c : ℕ) → is_enabled e c ≡ true → Enables e c
unfolding is_enabled
enables e c h = elim (or_either (eqb c 0x0001 && e.aes128 || eqb c 0x0002 && e.aes256) (eqb c 0x0010 && e.chacha20) h) [
  | inl y ↦ elim (or_either (eqb c 0x0001 && e.aes128) (eqb c 0x0002 && e.aes256) y) [
    | inl x ↦ let q = both (eqb c 0x0001) e.aes128 x in inl (eqb-true _ _ q.0, q.1)
    | inr x ↦ let q = both (eqb c 0x0002) e.aes256 x in inr (inl (eqb-true _ _ q.0, q.1))
  ]
  | inr x ↦ let q = both (eqb c 0x0010) e.chacha20 x in inr (inr (eqb-true _ _ q.0, q.1))
]

enabled_back : (e : Enabled) (c : ℕ) → Enables e c → is_enabled e c ≡ true
unfolding is_enabled
enabled_back e c (inl h) = rw (h.0, h.1)
enabled_back e c (inr (inl h)) = rw (h.0, h.1)
enabled_back e c (inr (inr h)) = rw (h.0, h.1)

not_enabled : (e : Enabled) (c : ℕ) → (Enables e c → ⊥) → is_enabled e c ≡ false
not_enabled e c h = go (is_enabled e c) refl
  where
    go : (b : Bool) → is_enabled e c ≡ b → b ≡ false
    go true q = absurd (h (enables e c q))
    go false q = refl

first_enabled : (e : Enabled) (c : ℕ) (l : List ℕ) → first_that (is_enabled e) l ≡ some c → FirstEnabled e c l
unfolding first_that
first_enabled e c [] h = let z : ◌≡◌ {A = ℕ} 0 1 = cc in absurd (omega arith)
first_enabled e c (x ∷ l) h = go (is_enabled e x) refl h (λ q. first_enabled e c l q)
  where
    go : (b : Bool) → is_enabled e x ≡ b → cond b (some x) (first_that (is_enabled e) l) ≡ some c → (first_that (is_enabled e) l ≡ some c → FirstEnabled e c l) → FirstEnabled e c (x ∷ l)
    go true q h rest =
        let k : x ≡ c = cc in
        record { before = []; after = l; place = ap (λ y. y ∷ l) k; enabled = subst (Enables e) k (enables e x q); none_before = tt }
    go false q h rest =
        let r = rest h in
        record {
          before = x ∷ r.before;
          after = r.after;
          place = ap (λ m. x ∷ m) r.place;
          enabled = r.enabled;
          none_before = (λ a. false≢true (sym q ∙ enabled_back e x a), r.none_before);
        }

first_at : (e : Enabled) (c : ℕ) (before after : List ℕ) → NoneEnabled e before → Enables e c → first_that (is_enabled e) (before ++ (c ∷ after)) ≡ some c
unfolding first_that
first_at e c [] after n h = ap (λ b. cond b (some c) (first_that (is_enabled e) after)) (enabled_back e c h)
first_at e c (x ∷ l) after n h = ap (λ b. cond b (some x) (first_that (is_enabled e) (l ++ (c ∷ after)))) (not_enabled e x n.0) ∙ first_at e c l after n.1 h

first_back : (e : Enabled) (c : ℕ) (l : List ℕ) → FirstEnabled e c l → first_that (is_enabled e) l ≡ some c
first_back e c l f = ap (first_that (is_enabled e)) f.place ∙ first_at e c f.before f.after f.none_before f.enabled

in_own : (c : ℕ) (l : List ℕ) → is_listed c l ≡ true → In c l
unfolding is_listed
in_own c [] h = absurd (false≢true h)
in_own c (x ∷ l) h = go (eqb x c) refl h (λ q. in_own c l q)
  where
    go : (b : Bool) → eqb x c ≡ b → b || is_listed c l ≡ true → (is_listed c l ≡ true → In c l) → In c (x ∷ l)
    go true q h rest = record { before = []; after = l; place = ap (λ y. y ∷ l) (eqb-true _ _ q) }
    go false q h rest = let r = rest h in record { before = x ∷ r.before; after = r.after; place = ap (λ m. x ∷ m) r.place }

own_at : (c : ℕ) (before after : List ℕ) → is_listed c (before ++ (c ∷ after)) ≡ true
unfolding is_listed
own_at c [] after = ap (λ b. b || is_listed c after) (eq-eqb c c refl)
own_at c (x ∷ l) after = or_right (eqb x c) (is_listed c (l ++ (c ∷ after))) (own_at c l after)

own_back : (c : ℕ) (l : List ℕ) → In c l → is_listed c l ≡ true
own_back c l f = ap (is_listed c) f.place ∙ own_at c f.before f.after

none_void : (l : List ℕ) → is_void l ≡ false → NoneVoid l
unfolding is_void is_listed
none_void [] e = tt
none_void (c ∷ l) e = let q = or_false (eqb c 0) (is_listed 0 l) e in (eqb-false c 0 q.0, none_void l q.1)

void_back : (l : List ℕ) → NoneVoid l → is_void l ≡ false
unfolding is_void is_listed
void_back [] n = refl
void_back (c ∷ l) n = ap (λ b. b || is_listed 0 l) (ne_eqb c 0 n.0) ∙ void_back l n.1

one_cipher : (own : List ℕ) (c : ℕ) (l : List ℕ) → length l ≡ 1 → first_that (in_init1 own) l ≡ some c → (l ≡ c ∷ []) × (is_listed c own ≡ true)
unfolding first_that in_init1
one_cipher own c [] n h = absurd (omega arith)
one_cipher own c (x ∷ []) n h = go (is_listed x own) refl h
  where
    go : (b : Bool) → is_listed x own ≡ b → cond b (some x) none ≡ some c → (x ∷ [] ≡ c ∷ []) × (is_listed c own ≡ true)
    go true q h = let k : x ≡ c = cc in (ap (λ y. y ∷ []) k, subst (λ y. is_listed y own ≡ true) k q)
    go false q h = let z : ◌≡◌ {A = ℕ} 0 1 = cc in absurd (omega arith)
one_cipher own c (x ∷ y ∷ l) n h = absurd (omega arith)

-- a reading that gives values is that of a message
record Taken (i : Init) (keys : ℕ) (test : ℕ → Bool) (p : List ℕ) (c count n : ℕ) (nonce k : List ℕ) : Type 0 where
  message : Message
  rest : List ℕ
  fits : Fits i keys message
  layout : encoded i message ++ rest ≡ p
  first : first_that test message.ciphers ≡ some c
  count_is : count ≡ length message.ciphers
  length_is : n ≡ length_of i message
  nonce_is : nonce ≡ message.nonce
  key_is : k ≡ padded message.key

module _ (i : Init) (keys : ℕ) (test : ℕ → Bool) (p : List ℕ) (c count n : ℕ) (nonce k : List ℕ) where
  abbrev gave_reading : Reading
  gave_reading = reading_as (took c count n) nonce k

  refused_not : (m : ℕ) → refused_reading m ≡ gave_reading → ⊥
  unfolding refused_reading
  refused_not m e = let s : refused_with m ≡ took c count n = ap (λ (r : Reading). r.says) e in let z : ◌≡◌ {A = ℕ} 0 1 = cc in omega arith

  answer_of : (m : Message) (rest : List ℕ) → Fits i keys m → encoded i m ++ rest ≡ p → reading i keys test p ≡ answer_to i test m
  answer_of m rest fits e = subst (λ l. reading i keys test l ≡ answer_to i test m) e (readable_reading i keys test m rest fits)

  from_message : (r : Readable i keys p) → answer_to i test r.message ≡ gave_reading → Taken i keys test p c count n nonce k
  unfolding answer_to with_cipher
  from_message r a = go (first_that test r.message.ciphers) refl a
    where
      go : (x : Option ℕ) → first_that test r.message.ciphers ≡ x
          → with_cipher x (length r.message.ciphers) (length_of i r.message) r.message.nonce r.message.key ≡ gave_reading
          → Taken i keys test p c count n nonce k
      go none q a = absurd (refused_not 10 a)
      go (some y) q a =
          let s : took y (length r.message.ciphers) (length_of i r.message) ≡ took c count n = ap (λ (x : Reading). x.says) a in
          let same : y ≡ c = cc in
          let counted : length r.message.ciphers ≡ count = cc in
          let long : length_of i r.message ≡ n = cc in
          record {
            message = r.message;
            rest = r.rest;
            fits = r.fits;
            layout = r.layout;
            first = q ∙ ap some same;
            count_is = sym counted;
            length_is = sym long;
            nonce_is = sym (ap (λ (x : Reading). x.nonce) a);
            key_is = sym (ap (λ (x : Reading). x.key) a);
          }

  gives : Bytes p → reading i keys test p ≡ gave_reading → Taken i keys test p c count n nonce k
  unfolding reading read_as
  gives bytes e = go (standing_of i keys p) refl e
    where
      go : (v : Standing) → standing_of i keys p ≡ v → read_as i keys test p v ≡ gave_reading → Taken i keys test p c count n nonce k
      go unreadable q a = absurd (refused_not 8 a)
      go incomplete q a = absurd (refused_not 9 a)
      go (whole m) q a =
          let r = whole_readable i keys p bytes (of_whole i keys p m q).0 in
          from_message r (sym (answer_of r.message r.rest r.fits r.layout) ∙ e)

  given : Taken i keys test p c count n nonce k → reading i keys test p ≡ gave_reading
  unfolding answer_to with_cipher
  given r =
      let m = r.message in
      let counted = sym r.count_is in
      let long = sym r.length_is in
      let the-nonce = sym r.nonce_is in
      let the-key = sym r.key_is in
      answer_of m r.rest r.fits r.layout
      ∙ (ap (λ x. with_cipher x (length m.ciphers) (length_of i m) m.nonce m.key) r.first
      ∙ (λ j. reading_as (took c (counted j) (long j)) (the-nonce j) (the-key j)))

  -- past number 3
  past_3 : read_for i keys test p ≡ gave_reading → (keys ≡ 0 → ⊥) × (reading i keys test p ≡ gave_reading)
  unfolding read_for
  past_3 e = go (eqb keys 0) refl e
    where
      go : (b : Bool) → eqb keys 0 ≡ b → cond b (refused_reading 3) (reading i keys test p) ≡ gave_reading → (keys ≡ 0 → ⊥) × (reading i keys test p ≡ gave_reading)
      go true q e = absurd (refused_not 3 e)
      go false q e = (eqb-false _ _ q, e)

  reads_on : (keys ≡ 0 → ⊥) → read_for i keys test p ≡ reading i keys test p
  unfolding read_for
  reads_on h = ap (λ b. cond b (refused_reading 3) (reading i keys test p)) (ne_eqb keys 0 h)

-- Init1
module _ (t : ℕ) (enabled : Enabled) (p : List ℕ) (c count n : ℕ) (nonce k : List ℕ) where
  init1_is : (key_length t ≡ 0 → ⊥) → Taken init1 (key_length t) (is_enabled enabled) p c count n nonce k → Init1Taken t enabled p c count n nonce k
  unfolding most_length padded
  init1_is h r =
      let m = r.message in
      record {
        ciphers = m.ciphers;
        key = m.key;
        ignored = m.ignored;
        message = encoded init1 m;
        rest = r.rest;
        at_hand = r.layout;
        layout =
            layout1 m
            ∙ (ap (λ x. init1_with x (length m.ciphers) m.ciphers m.nonce m.key m.ignored) (sym r.length_is)
            ∙ (ap (λ x. init1_with n x m.ciphers m.nonce m.key m.ignored) (sym r.count_is)
            ∙ ap (λ x. init1_with n count m.ciphers x m.key m.ignored) (sym r.nonce_is)));
        length_is = r.length_is ∙ sym (length_encoded init1 m);
        short = omega (arith, r.length_is, r.fits.short);
        count_is = r.count_is;
        count_fits = (omega (arith, r.count_is, r.fits.count.0), omega (arith, r.count_is, r.fits.count.1));
        each = r.fits.each;
        named = none_void m.ciphers r.fits.named;
        nonce_long = ap length r.nonce_is ∙ r.fits.nonce;
        key_long = key_of t (length m.key) h r.fits.key;
        key_given = r.key_is;
        first = first_enabled enabled c m.ciphers r.first;
      }

  init1_back : Init1Taken t enabled p c count n nonce k → Taken init1 (key_length t) (is_enabled enabled) p c count n nonce k
  unfolding most_length padded
  init1_back r =
      let m = message_with r.ciphers nonce r.key r.ignored in
      let long : n ≡ length_of init1 m = r.length_is ∙ (ap length r.layout ∙ length1 n count r.ciphers nonce r.key r.ignored) in
      let same : encoded init1 m ≡ r.message =
      layout1 m
      ∙ (ap (λ x. init1_with x (length r.ciphers) r.ciphers nonce r.key r.ignored) (sym long)
      ∙ (ap (λ x. init1_with n x r.ciphers nonce r.key r.ignored) (sym r.count_is) ∙ sym r.layout)) in
      record {
        message = m;
        rest = r.rest;
        fits =
            record {
              count = (omega (arith, r.count_is, r.count_fits.0), omega (arith, r.count_is, r.count_fits.1));
              each = r.each;
              named = void_back r.ciphers r.named;
              nonce = r.nonce_long;
              key = key_back t (length r.key) r.key_long;
              short = omega (arith, long, r.short);
            };
        layout = ap (λ l. l ++ r.rest) same ∙ r.at_hand;
        first = first_back enabled c r.ciphers r.first;
        count_is = r.count_is;
        length_is = long;
        nonce_is = refl;
        key_is = r.key_given;
      }

  -- B reads these values exactly when the bytes are an Init1 with them and the cipher is the first that it has enabled
  pub init1_accepted : Bytes p → (read_init1 t enabled p ≡ reading_as (took c count n) nonce k) ↔ Init1Taken t enabled p c count n nonce k
  unfolding read_init1
  init1_accepted bytes = (
    λ e. let g = past_3 init1 (key_length t) (is_enabled enabled) p c count n nonce k e in init1_is g.0 (gives init1 (key_length t) (is_enabled enabled) p c count n nonce k bytes g.1),
    λ r. reads_on init1 (key_length t) (is_enabled enabled) p c count n nonce k (has_key t (length r.key) r.key_long)
        ∙ given init1 (key_length t) (is_enabled enabled) p c count n nonce k (init1_back r),
  )

-- Init2
module _ (t : ℕ) (own p : List ℕ) (c count n : ℕ) (nonce k : List ℕ) where
  init2_is : (key_length t ≡ 0 → ⊥) → length own ≤ 255 → Taken init2 (key_length t) (in_init1 own) p c count n nonce k → Init2Taken t own p c count n nonce k
  unfolding most_length padded
  init2_is h few r =
      let m = r.message in
      let one = one_cipher own c m.ciphers r.fits.count r.first in
      let whole-m : message_with (c ∷ []) m.nonce m.key m.ignored ≡ m = ap (λ l. message_with l m.nonce m.key m.ignored) (sym one.0) in
      let long : length_of init2 (message_with (c ∷ []) m.nonce m.key m.ignored) ≡ n = ap (length_of init2) whole-m ∙ sym r.length_is in
      record {
        key = m.key;
        ignored = m.ignored;
        message = encoded init2 m;
        rest = r.rest;
        at_hand = r.layout;
        layout =
            ap (encoded init2) (sym whole-m)
            ∙ (layout2 c m.nonce m.key m.ignored
            ∙ (ap (λ x. init2_with x c m.nonce m.key m.ignored) long ∙ ap (λ x. init2_with n c x m.key m.ignored) (sym r.nonce_is)));
        length_is = r.length_is ∙ sym (length_encoded init2 m);
        short = omega (arith, r.length_is, r.fits.short);
        count_is = r.count_is ∙ r.fits.count;
        each = subst Ciphers one.0 r.fits.each;
        named = (none_void (c ∷ []) (subst (λ l. is_void l ≡ false) one.0 r.fits.named)).0;
        nonce_long = ap length r.nonce_is ∙ r.fits.nonce;
        key_long = key_of t (length m.key) h r.fits.key;
        key_given = r.key_is;
        own_fits = few;
        sent = in_own c own one.1;
      }

  init2_back : Init2Taken t own p c count n nonce k → Taken init2 (key_length t) (in_init1 own) p c count n nonce k
  unfolding most_length padded first_that in_init1
  init2_back r =
      let m = message_with (c ∷ []) nonce r.key r.ignored in
      let long : n ≡ length_of init2 m = r.length_is ∙ (ap length r.layout ∙ length2 n c nonce r.key r.ignored) in
      let same : encoded init2 m ≡ r.message =
      layout2 c nonce r.key r.ignored ∙ (ap (λ x. init2_with x c nonce r.key r.ignored) (sym long) ∙ sym r.layout) in
      record {
        message = m;
        rest = r.rest;
        fits =
            record {
              count = refl;
              each = r.each;
              named = void_back (c ∷ []) (r.named, tt);
              nonce = r.nonce_long;
              key = key_back t (length r.key) r.key_long;
              short = omega (arith, long, r.short);
            };
        layout = ap (λ l. l ++ r.rest) same ∙ r.at_hand;
        first = ap (λ b. cond b (some c) none) (own_back c own r.sent);
        count_is = r.count_is;
        length_is = long;
        nonce_is = refl;
        key_is = r.key_given;
      }

  past_255 : read_init2 t own p ≡ reading_as (took c count n) nonce k → (length own ≤ 255) × (read_for init2 (key_length t) (in_init1 own) p ≡ reading_as (took c count n) nonce k)
  unfolding read_init2
  past_255 e = go (ltb 255 (length own)) refl e
    where
      go : (b : Bool) → ltb 255 (length own) ≡ b → cond b (refused_reading 3) (read_for init2 (key_length t) (in_init1 own) p) ≡ reading_as (took c count n) nonce k
          → (length own ≤ 255) × (read_for init2 (key_length t) (in_init1 own) p ≡ reading_as (took c count n) nonce k)
      go true q e = absurd (refused_not init2 (key_length t) (in_init1 own) p c count n nonce k 3 e)
      go false q e = (ltb-false _ _ q, e)

  -- A reads these values exactly when the bytes are an Init2 with them and the cipher was in its own Init1
  pub init2_accepted : Bytes p → (read_init2 t own p ≡ reading_as (took c count n) nonce k) ↔ Init2Taken t own p c count n nonce k
  unfolding read_init2
  init2_accepted bytes = (
    λ e. let few = past_255 e in
        let g = past_3 init2 (key_length t) (in_init1 own) p c count n nonce k few.1 in
        init2_is g.0 few.0 (gives init2 (key_length t) (in_init1 own) p c count n nonce k bytes g.1),
    λ r. ap (λ b. cond b (refused_reading 3) (read_for init2 (key_length t) (in_init1 own) p)) (le-ltb 255 (length own) r.own_fits)
        ∙ (reads_on init2 (key_length t) (in_init1 own) p c count n nonce k (has_key t (length r.key) r.key_long)
        ∙ given init2 (key_length t) (in_init1 own) p c count n nonce k (init2_back r)),
  )
