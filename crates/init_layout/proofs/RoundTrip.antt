-- What the writers write is read back to the same values, with any bytes appended, given a common cipher. Assumes nothing.
use Rattle.std.specs.Prelude.{ℕ, ◌+◌, ◌≤◌, ◌<◌, ◌≡◌, refl, List, [], ◌∷◌, ◌++◌, Bool, true, false, cond, not, ◌&&◌, ◌||◌, ltb, eqb, length, take}
use Rattle.std.proofs.Common.{sym, ◌∙◌, ap, arith, le-ltb, ltb-false, ne_eqb, take_at}
use Rattle.std.proofs.lemmas.Bool.{false≢true, not-true}
use Rattle.std.proofs.Math.Option.{none, some}
use Rattle.wire.specs.Bytes.{pasted}
use Rattle.wire.specs.ByteLaws.{pasted_fits}
use Rattle.eno.specs.Tep.{key_length}
use Rattle.eno.specs.Option.{written_as, wrote, is_listed}
use Rattle.eno.specs.Option as option
use Rattle.init_layout.specs.Layout.{Init, init1, init2, Message, message_with, Ciphers, is_void, length_of, encoded, init1_bytes, init2_bytes, most_length, Fits}
use Rattle.init_layout.proofs.LayoutLaws.{length_encoded, length_of_lem}
use Rattle.init_layout.specs.Reading.{ciphers_from, nonce_from, fields_end, first_that, is_enabled, in_init1, took, reading_as, refused_reading, padded, with_cipher, answer_to, reading, read_for, read_init1, read_init2}
use Rattle.init_layout.specs.Writing.{parts_fit, ciphers_fit, write_message, write_init1, write_init2}
use Rattle.init_layout.specs.WritingLaws.{Parts, Listed}
use Rattle.init_layout.proofs.WritingLaws.{parts, ciphers_listed}
use Rattle.init_layout.proofs.ReadableLaws.{readable_reading}
use Rattle.init_layout.proofs.Refusals.{keys_few}
use Rattle.init_layout.specs.declared.Enabled.{Enabled}

-- what it means that a message was written
record Sent (fit : Bool) (bytes : List ℕ) (n : ℕ) (buffer : List ℕ) : Type 0 where
  fitting : fit ≡ true
  long : n ≡ length bytes
  there : take n buffer ≡ bytes

sent : (fit : Bool) (bytes s : List ℕ) (n : ℕ) → (write_message fit bytes s).says ≡ wrote n → Sent fit bytes n (write_message fit bytes s).buffer
unfolding write_message
sent false bytes s n e = let z : ◌≡◌ {A = ℕ} 0 1 = cc in absurd (omega arith)
sent true bytes s n e = go (ltb (length s) (length bytes)) refl e
  where
    go : (b : Bool) → ltb (length s) (length bytes) ≡ b → (cond b (written_as (option.refused_with 5) s) (written_as (wrote (length bytes)) (pasted s 0 bytes))).says ≡ wrote n
        → Sent true bytes n (cond b (written_as (option.refused_with 5) s) (written_as (wrote (length bytes)) (pasted s 0 bytes))).buffer
    go true q e = let z : ◌≡◌ {A = ℕ} 0 1 = cc in absurd (omega arith)
    go false q e =
        let h = ltb-false (length s) (length bytes) q in
        let k : n ≡ length bytes = cc in
        record { fitting = refl; long = k; there = ap (take n) (pasted_fits s 0 bytes (omega arith)) ∙ take_at bytes _ n (sym k) }

both : (a b : Bool) → a && b ≡ true → (a ≡ true) × (b ≡ true)
both true true e = (refl, refl)
both true false e = absurd (false≢true e)
both false b e = absurd (false≢true e)

-- past number 3
read_on : (i : Init) (keys : ℕ) (test : ℕ → Bool) (p : List ℕ) → (keys ≡ 0 → ⊥) → read_for i keys test p ≡ reading i keys test p
unfolding read_for
read_on i keys test p h = simp (ne_eqb _ _ h)

pub init1_read_back : (t : ℕ) (enabled : Enabled) (ciphers nonce key s more : List ℕ) (n c : ℕ) → Ciphers ciphers
    → (write_init1 t ciphers nonce key s).says ≡ wrote n → first_that (is_enabled enabled) ciphers ≡ some c
    → read_init1 t enabled (take n (write_init1 t ciphers nonce key s).buffer ++ more) ≡ reading_as (took c (length ciphers) n) nonce (padded key)
unfolding write_init1 read_init1 init1_bytes answer_to with_cipher most_length fields_end nonce_from ciphers_from
init1_read_back t enabled ciphers nonce key s more n c each e first =
    ap (λ l. read_for init1 (key_length t) (is_enabled enabled) (l ++ more)) w.there
    ∙ (read_on init1 (key_length t) (is_enabled enabled) (encoded init1 m ++ more) f.has_keys
    ∙ (readable_reading init1 (key_length t) (is_enabled enabled) m more fits
    ∙ (ap (λ x. with_cipher x (length ciphers) (length_of init1 m) nonce key) first
    ∙ ap (λ k. reading_as (took c (length ciphers) k) nonce (padded key)) (sym (w.long ∙ length_encoded init1 m)))))
  where
    m : Message
    m = message_with ciphers nonce key []

    w : Sent (parts_fit t nonce key && ciphers_fit ciphers) (init1_bytes ciphers nonce key) n (write_init1 t ciphers nonce key s).buffer
    w = sent (parts_fit t nonce key && ciphers_fit ciphers) (init1_bytes ciphers nonce key) s n e

    fit : (parts_fit t nonce key ≡ true) × (ciphers_fit ciphers ≡ true)
    fit = both (parts_fit t nonce key) (ciphers_fit ciphers) w.fitting

    f : Parts t nonce key
    f = parts t nonce key fit.0

    l : Listed ciphers
    l = ciphers_listed ciphers fit.1

    fits : Fits init1 (key_length t) m
    fits =
        record {
          count = (l.some, l.few);
          each = each;
          named = l.named;
          nonce = f.nonce_long;
          key = f.key_long;
          short = omega (arith, l.few, length_of_lem init1 m (key_length t) f.nonce_long f.key_long, keys_few t);
        }

pub init2_read_back : (t cipher : ℕ) (own nonce key s more : List ℕ) (n : ℕ) → cipher < 65536
    → (write_init2 t cipher nonce key s).says ≡ wrote n → length own ≤ 255 → in_init1 own cipher ≡ true
    → read_init2 t own (take n (write_init2 t cipher nonce key s).buffer ++ more) ≡ reading_as (took cipher 1 n) nonce (padded key)
unfolding write_init2 read_init2 init2_bytes answer_to with_cipher first_that most_length fields_end nonce_from ciphers_from is_void is_listed
init2_read_back t cipher own nonce key s more n small e few listed =
    ap (λ l. cond (ltb 255 (length own)) (refused_reading 3) (read_for init2 (key_length t) (in_init1 own) (l ++ more))) w.there
    ∙ (ap (λ b. cond b (refused_reading 3) (read_for init2 (key_length t) (in_init1 own) (encoded init2 m ++ more))) (le-ltb 255 (length own) few)
    ∙ (read_on init2 (key_length t) (in_init1 own) (encoded init2 m ++ more) f.has_keys
    ∙ (readable_reading init2 (key_length t) (in_init1 own) m more fits
    ∙ (ap (λ b. with_cipher (cond b (some cipher) none) 1 (length_of init2 m) nonce key) listed
    ∙ ap (λ k. reading_as (took cipher 1 k) nonce (padded key)) (sym (w.long ∙ length_encoded init2 m))))))
  where
    m : Message
    m = message_with (cipher ∷ []) nonce key []

    w : Sent (parts_fit t nonce key && not (eqb cipher 0)) (init2_bytes cipher nonce key) n (write_init2 t cipher nonce key s).buffer
    w = sent (parts_fit t nonce key && not (eqb cipher 0)) (init2_bytes cipher nonce key) s n e

    fit : (parts_fit t nonce key ≡ true) × (not (eqb cipher 0) ≡ true)
    fit = both (parts_fit t nonce key) (not (eqb cipher 0)) w.fitting

    f : Parts t nonce key
    f = parts t nonce key fit.0

    named : is_void (cipher ∷ []) ≡ false
    named = ap (λ b. b || false) (not-true (eqb cipher 0) fit.1)

    fits : Fits init2 (key_length t) m
    fits =
        record {
          count = refl;
          each = (small, tt);
          named = named;
          nonce = f.nonce_long;
          key = f.key_long;
          short = omega (arith, length_of_lem init2 m (key_length t) f.nonce_long f.key_long, keys_few t);
        }

-- what is read does not hang on the rest
pub rest_not_read : (i : Init) (keys : ℕ) (test : ℕ → Bool) (m : Message) (rest other : List ℕ) → Fits i keys m
    → reading i keys test (encoded i m ++ rest) ≡ reading i keys test (encoded i m ++ other)
rest_not_read i keys test m rest other fits = readable_reading i keys test m rest fits ∙ sym (readable_reading i keys test m other fits)
