-- The answers of extract and expand in the papers' numbers and values; each view loses nothing.
use Rattle.std.specs.Prelude.{ℕ, ◌≡◌, refl, cond, eqb, List, Result, Ok, Err, is_ok}
use Rattle.std.proofs.Common.{sym, ◌∙◌, ap, arith}
use Rattle.hkdf_interface.specs.Interface.{Reply, refused, made, written, Outcome, TooLong}
use Rattle.hkdf_interface.specs.declared.ExpandRefusal.{ExpandRefusal}
use Rattle.hkdf_interface.specs.declared.ExpandRefusal.TheVariants as w
use Rattle.hkdf_interface.specs.Answers.{extract_reply, extract_told, expand_reply}

-- the views lose nothing: an answer is read back from the number of its refusal, 0 without one, and its value
record Values : Type 0 where
  number : ℕ
  value : ℕ

abbrev values_of : Reply → Values
values_of (refused n) = record { number = n; value = 0 }
values_of made = record { number = 0; value = 0 }
values_of (written n) = record { number = 0; value = n }

extract_back : (a : Result (List ℕ) TooLong) → eqb (values_of (extract_reply a)).number 0 ≡ is_ok a
extract_back (Ok d) = refl
extract_back (Err e) = refl

-- the reply tells whether there is a key, and with the bytes the whole answer
pub extract_tells : (a b : Result (List ℕ) TooLong) → extract_reply a ≡ extract_reply b → is_ok a ≡ is_ok b
extract_tells a b e = sym (extract_back a) ∙ (ap (λ x. eqb (values_of x).number 0) e ∙ extract_back b)

pub extracted_tells : (a b : Result (List ℕ) TooLong) → extract_told a ≡ extract_told b → a ≡ b
extracted_tells (Ok c) (Ok d) e = ap Ok (ap (λ (x : Outcome). x.bytes) e)
extracted_tells (Err x) (Err y) e = refl
extracted_tells (Ok c) (Err y) e = let z : ◌≡◌ {A = ℕ} 0 17 = ap (λ (x : Outcome). (values_of x.reply).number) e in absurd (omega arith)
extracted_tells (Err x) (Ok d) e = let z : ◌≡◌ {A = ℕ} 17 0 = ap (λ (x : Outcome). (values_of x.reply).number) e in absurd (omega arith)

abbrev expand_in : Values → Result ℕ ExpandRefusal
expand_in v = cond (eqb v.number 0) (Ok v.value) (cond (eqb v.number 3) (Err w.Unfit) (cond (eqb v.number 5) (Err w.NoRoom) (Err w.TooLong)))

expand_back : (a : Result ℕ ExpandRefusal) → expand_in (values_of (expand_reply a)) ≡ a
expand_back (Ok n) = refl
expand_back (Err w.Unfit) = refl
expand_back (Err w.NoRoom) = refl
expand_back (Err w.TooLong) = refl

pub expand_tells : (a b : Result ℕ ExpandRefusal) → expand_reply a ≡ expand_reply b → a ≡ b
expand_tells a b e = sym (expand_back a) ∙ (ap (λ x. expand_in (values_of x)) e ∙ expand_back b)
