-- Demand 1 for hashes: a refusal leaves the lent buffer as found, and a reply is `refused n` exactly when n is the least number that applies. Assumes nothing.
use Prim.Native.Nat.{ℕ, zero, suc, ◌+◌, ◌/◌, ◌-◌, ◌^◌}
use Rattle.std.proofs.Math.Path.{◌≡◌, refl, sym, ap}
use Rattle.std.proofs.Common.{◌∙◌}
use Rattle.std.specs.Prelude.{List, [], ◌∷◌, ◌++◌, Bool, true, false, cond, ◌&&◌, ◌||◌, ◌↔◌, ltb, length}
use Rattle.std.proofs.Math.Option.{Option, none, some}
use Rattle.std.proofs.Math.Decide.{dec_lt}
use native.Mathlib.Omega.{arith}
use borrow.Author.Tests.{lt-ltb, le-ltb}
use Rattle.refusals.specs.Rows.{refusal, Rising, Least}
use Rattle.refusals.specs.RowLaws.{first_is_least}
use Rattle.hash_layout.specs.Outcome.{Reply, refused, made, written, Outcome, unless}
use Rattle.hash_layout.specs.Calls.{Ask, hash, mac, extract, expand, longest, too_long, mac_too_long, most_expanded, expand_too_long, digest, expanded, outcome}
use Rattle.hash_layout.specs.Numbered.{number3, number5, number17, lent_of, to_write, hashed_mac, length_t, hashed_blocks, hashed, is_longer, is_over255, rows, applies}
use Rattle.hash_layout.specs.Refusals.{refused_by}

module _ (zeros s : List ℕ) (x : Outcome) (taken : refused_by x.reply ≡ none) where
  told : (t : Option ℕ) → refused_by (unless t zeros s x).reply ≡ t
  unfolding unless
  told none = taken
  told (some n) = refl

  kept : (t : Option ℕ) (n : ℕ) → refused_by (unless t zeros s x).reply ≡ some n → (unless t zeros s x).buffer ≡ s
  unfolding unless
  kept none n e = let z : ◌≡◌ {A = ℕ} 0 1 = cc in absurd (omega arith)
  kept (some m) n e = refl

-- a refusal leaves the lent buffer as found
pub refusal_changes_nothing : (k : Ask) (n : ℕ) → (outcome k).reply ≡ refused n → (outcome k).buffer ≡ lent_of k
unfolding outcome lent_of digest expanded
refusal_changes_nothing (hash m) n e = kept _ [] _ refl _ n (ap refused_by e)
refusal_changes_nothing (mac key m) n e = kept _ [] _ refl _ n (ap refused_by e)
refusal_changes_nothing (extract salt ikm) n e = kept _ [] _ refl _ n (ap refused_by e)
refusal_changes_nothing (expand key info m s) n e = kept _ s _ refl _ n (ap refused_by e)

or_false : (a : Bool) → a || false ≡ a
or_false true = refl
or_false false = refl

or_assoc : (a b c : Bool) → (a || b) || c ≡ a || (b || c)
or_assoc true b c = refl
or_assoc false b c = refl

or_same : (a b : Bool) → a || (a || b) ≡ a || b
or_same true b = refl
or_same false b = refl

or_swap : (a b : Bool) → a || b ≡ b || a
or_swap true true = refl
or_swap true false = refl
or_swap false true = refl
or_swap false false = refl

longer_append : (a b : List ℕ) → is_longer (a ++ b) ≡ is_longer a || is_longer b
unfolding is_longer
longer_append [] b = refl
longer_append (x ∷ a) b = ap (λ y. ltb (2 ^ 61 - 1) x || y) (longer_append a b) ∙ sym (or_assoc (ltb (2 ^ 61 - 1) x) (is_longer a) (is_longer b))

-- the hashes of a MAC: a key of at most a block is not too long, nor is a block with a hash
mac_is : (key text : ℕ) → is_longer (hashed_mac key text) ≡ mac_too_long key text
unfolding hashed_mac is_longer mac_too_long too_long longest
mac_is key text = elim (dec_lt 64 key) [
  | yes h ↦ rw (lt-ltb 64 key h) (ap (λ x. ltb (2 ^ 61 - 1) key || x) (or_false (ltb (2 ^ 61 - 1) (64 + text))))
  | no h ↦ rw (le-ltb 64 key (omega arith), le-ltb (2 ^ 61 - 1) key (omega arith)) (or_false (ltb (2 ^ 61 - 1) (64 + text)))
]

module _ (info : ℕ) where
  -- a block more hashes a block, the T before, info and the counter
  block_is : (i : ℕ) → is_longer (hashed_blocks info (suc i)) ≡ too_long (64 + (length_t i + info + 1)) || is_longer (hashed_blocks info i)
  unfolding hashed_blocks mac_too_long too_long longest
  block_is i =
      longer_append (hashed_mac 32 (length_t i + info + 1)) (hashed_blocks info i)
      ∙ ap (λ x. x || is_longer (hashed_blocks info i)) (mac_is 32 (length_t i + info + 1))

  one_block : is_longer (hashed_blocks info 1) ≡ too_long (65 + info)
  unfolding length_t is_longer hashed_blocks
  one_block =
      let e : 64 + (0 + info + 1) ≡ 65 + info = omega arith in
      block_is 0 ∙ rw e (or_false (too_long (65 + info)))

  more_blocks : (i : ℕ) → is_longer (hashed_blocks info (suc (suc i))) ≡ too_long (65 + info) || too_long (97 + info)
  unfolding length_t
  more_blocks zero =
      let e : 64 + (32 + info + 1) ≡ 97 + info = omega arith in
      block_is 1 ∙ (rw (e, one_block) (or_swap (too_long (97 + info)) (too_long (65 + info))))
  more_blocks (suc i) =
      let e : 64 + (32 + info + 1) ≡ 97 + info = omega arith in
      let a = too_long (97 + info) in
      let b = too_long (65 + info) in
      block_is (suc (suc i)) ∙ (rw (e, more_blocks i) (ap (λ x. a || x) (or_swap b a) ∙ (or_same a b ∙ or_swap a b)))

  blocks_are : (n : ℕ) → is_longer (hashed_blocks info ((n + 31) / 32)) ≡ ltb 0 n && too_long (65 + info) || ltb 32 n && too_long (97 + info)
  unfolding hashed_blocks is_longer
  blocks_are n = elim (dec_lt 0 n) [
    | no h ↦
        let e : (n + 31) / 32 ≡ 0 = omega arith in
        rw (e, le-ltb 0 n (omega arith), le-ltb 32 n (omega arith))
    | yes h ↦ elim (dec_lt 32 n) [
      | no k ↦
          let e : (n + 31) / 32 ≡ 1 = omega arith in
          rw (e, lt-ltb 0 n h, le-ltb 32 n (omega arith)) (one_block ∙ sym (or_false (too_long (65 + info))))
      | yes k ↦
          let e : (n + 31) / 32 ≡ suc (suc ((n + 31) / 32 - 2)) = omega arith in
          rw (lt-ltb 0 n h, lt-ltb 32 n k) (ap (λ i. is_longer (hashed_blocks info i)) e ∙ more_blocks ((n + 31) / 32 - 2))
    ]
  ]

one_hash : (n : ℕ) → is_longer (n ∷ []) ≡ too_long n
unfolding is_longer too_long longest
one_hash n = or_false (ltb (2 ^ 61 - 1) n)

alone : (a b : Bool) → a ≡ b → cond {A = Option ℕ} a (some 17) none ≡ cond b (some 17) none
alone a b e = ap (λ x. cond x (some 17) none) e

-- the reply is refused by the first row that applies
refused_by_rows : (k : Ask) → refused_by (outcome k).reply ≡ refusal (rows k)
unfolding outcome rows number3 number5 number17 lent_of to_write hashed is_over255 refusal expand_too_long most_expanded digest expanded
refused_by_rows (hash m) = told _ [] _ refl _ ∙ alone _ _ (sym (one_hash (length m)))
refused_by_rows (mac key m) = told _ [] _ refl _ ∙ alone _ _ (sym (mac_is (length key) (length m)))
refused_by_rows (extract salt ikm) = told _ [] _ refl _ ∙ alone _ _ (sym (mac_is (length salt) (length ikm)))
refused_by_rows (expand key info n s) = told _ s _ refl _ ∙ (rw (blocks_are (length info) n))

rows_rise : (k : Ask) → Rising 0 (rows k)
unfolding rows
rows_rise k = (omega arith, (omega arith, (omega arith, tt)))

refused_back : (x : Reply) (n : ℕ) → refused_by x ≡ some n → x ≡ refused n
refused_back (refused m) n e = let q : m ≡ n = cc in ap refused q
refused_back made n e = let z : ◌≡◌ {A = ℕ} 0 1 = cc in absurd (omega arith)
refused_back (written m) n e = let z : ◌≡◌ {A = ℕ} 0 1 = cc in absurd (omega arith)

-- the reply is `refused n` exactly when n is the least number that applies; so no other number occurs
pub refused_exactly : (k : Ask) (n : ℕ) → ((outcome k).reply ≡ refused n) ↔ Least (applies k) n
unfolding applies
refused_exactly k n =
    let both = first_is_least (rows k) 0 (rows_rise k) n in (
      λ e. both.0 (sym (refused_by_rows k) ∙ ap refused_by e),
      λ l. refused_back (outcome k).reply n (refused_by_rows k ∙ both.1 l),
    )
