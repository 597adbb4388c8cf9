-- What it means that TEP, nonce and key fit, and a list of ciphers. Assumes nothing.
use Rattle.std.specs.Prelude.{ℕ, ◌≤◌, ◌≡◌, refl, List, Bool, true, false, not, ◌&&◌, leb, eqb, length}
use Rattle.std.proofs.lemmas.Bool.{false≢true, eqb-false}
use Rattle.std.proofs.Common.{eqb-true, leb-true}
use Rattle.eno.specs.Tep.{key_length}
use Rattle.init_layout.specs.Layout.{is_void}
use Rattle.init_layout.specs.Writing.{parts_fit, ciphers_fit}
use Rattle.init_layout.specs.WritingLaws.{Parts, Listed}

pub parts : (t : ℕ) (nonce key : List ℕ) → parts_fit t nonce key ≡ true → Parts t nonce key
unfolding parts_fit
parts t nonce key e = go (eqb (key_length t) 0) (eqb (length nonce) 32) (eqb (length key) (key_length t)) refl refl refl e
  where
    go : (a b c : Bool) → eqb (key_length t) 0 ≡ a → eqb (length nonce) 32 ≡ b → eqb (length key) (key_length t) ≡ c → not a && b && c ≡ true → Parts t nonce key
    go true b c p q r e = absurd (false≢true e)
    go false false c p q r e = absurd (false≢true e)
    go false true false p q r e = absurd (false≢true e)
    go false true true p q r e = record { has_keys = eqb-false _ _ p; nonce_long = eqb-true _ _ q; key_long = eqb-true _ _ r }

pub ciphers_listed : (ciphers : List ℕ) → ciphers_fit ciphers ≡ true → Listed ciphers
unfolding ciphers_fit
ciphers_listed ciphers e = go (leb 1 (length ciphers)) (leb (length ciphers) 255) (is_void ciphers) refl refl refl e
  where
    go : (a b c : Bool) → leb 1 (length ciphers) ≡ a → leb (length ciphers) 255 ≡ b → is_void ciphers ≡ c → a && b && not c ≡ true → Listed ciphers
    go false b c p q r e = absurd (false≢true e)
    go true false c p q r e = absurd (false≢true e)
    go true true true p q r e = absurd (false≢true e)
    go true true false p q r e = record { some = leb-true _ _ p; few = leb-true _ _ q; named = r }
