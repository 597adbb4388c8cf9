-- Two options by which a record is resumed tell its own role, where its halves differ, and the nonces behind the halves. Assumes nothing.
use Rattle.std.specs.Prelude.{ℕ, ◌+◌, ◌-◌, ◌%◌, ◌≤◌, ◌<◌, ◌≡◌, List, [], ◌∷◌, ◌++◌, true, false, ◌&&◌, eqb, length, get_or, drop}
use Rattle.std.proofs.Math.Path.{refl, ap, ap₂, subst}
use Rattle.std.proofs.Common.{sym, ◌∙◌, true≢false, eqb-true, eq-eqb, ne_eqb, take-add, drop-drop}
use Rattle.std.proofs.Math.Bool.{cond}
use Rattle.std.proofs.Math.Option.{some}
use native.Mathlib.Omega.{arith}
use Rattle.std.proofs.Math.Decide.{ℕ_discrete}
use Rattle.std.proofs.Math.ListN.{take}
use Rattle.std.proofs.Math.Seq.{take-append_seam, drop-append_seam}
use Rattle.wire.specs.Bytes.{part, same_bytes}
use Rattle.wire.specs.ByteLaws.{same_yes, same_no}
use Rattle.eno.specs.declared.SessionRecord.{SessionRecord}
use Rattle.eno.specs.Suboption.{Sent, suboptions, is_ill_formed}
use Rattle.eno.specs.Session.{first_half, second_half, sent_half, expected_half}
use Rattle.eno.specs.Judge.{is_resumption, half_of, named, once, teps_of, of_a, of_b}
use Rattle.eno.proofs.Laws.Asked.{and_true}
use Rattle.key_terms.specs.Terms.{Terms, option_of_a, option_of_b, is_whole, data_of, resumption_data, half_in, nonce_in, original_role, keyed_by, carrying, terms_by, terms}
use Rattle.key_terms.proofs.Laws.{data_fits}
use Rattle.key_terms_resumed.specs.Judged.{Seen}
use Rattle.key_terms_resumed.specs.Telling.{nonce_by}

-- the transcript is cut where it was joined
own_length : (a : List ℕ) → is_whole a ≡ true → get_or a 1 0 ≡ length a
unfolding is_whole
own_length a w = eqb-true _ _ (and_true (eqb (get_or a 0 0) 0x45) (eqb (get_or a 1 0) (length a)) (and_true (eqb (get_or a 0 0) 0x45 && eqb (get_or a 1 0) (length a)) _ w).0).1

second_byte : (a b : List ℕ) → is_whole a ≡ true → get_or (a ++ b) 1 0 ≡ length a
unfolding is_whole
second_byte [] b w = absurd (true≢false (sym w))
second_byte (x ∷ []) b w = let z : ◌≡◌ {A = ℕ} 0 1 = own_length (x ∷ []) w in absurd (omega arith)
second_byte (x ∷ y ∷ a) b w = own_length (x ∷ y ∷ a) w

pub cut_a : (a b : List ℕ) → is_whole a ≡ true → option_of_a (a ++ b) ≡ a
unfolding option_of_a part
cut_a a b w = ap (λ n. take n (a ++ b)) (second_byte a b w) ∙ take-append_seam a b

pub cut_b : (a b : List ℕ) → is_whole a ≡ true → option_of_b (a ++ b) ≡ b
unfolding option_of_b
cut_b a b w = ap (λ n. drop n (a ++ b)) (second_byte a b w) ∙ drop-append_seam a b

module _ (t : ℕ) (o : List ℕ) (x : Sent) (whole : is_whole o ≡ true) (well : is_ill_formed (suboptions o) ≡ false) (is : named t (teps_of o) ≡ x ∷ []) (r : is_resumption x ≡ true) where
  has_data : resumption_data t o ≡ some (record { start = x.start; len = x.len })
  unfolding resumption_data data_of once
  has_data = rw (whole, well, is, r)

  -- its data are the half and the nonce
  pub half_then_nonce : part x.start x.len o ≡ half_of o x ++ nonce_by o x
  unfolding part half_of
  half_then_nonce =
      let f = data_fits t o x.start x.len (sym has_data) in
      let nine = f.nine in
      let e : x.len ≡ 9 + (x.len - 9) = omega arith in
      ap (λ n. take n (drop x.start o)) e ∙ (take-add 9 (x.len - 9) (drop x.start o)
      ∙ ap (λ l. take 9 (drop x.start o) ++ take (x.len - 9) l) (drop-drop 9 x.start o))

-- the role
different : (a b : List ℕ) → same_bytes a b ≡ false → same_bytes b a ≡ false
different a b e = sym (same_no b a (λ q. true≢false (same_yes a ∙ (ap (λ l. same_bytes a l) (sym q) ∙ e))))

role_of_a : (identifier first second : List ℕ) → part 0 9 identifier ≡ first → part 9 9 identifier ≡ second → same_bytes first second ≡ false → original_role identifier first second ≡ some 0
unfolding original_role
role_of_a identifier first second p q d = rw (p, q, d, sym (same_yes first), sym (same_yes second))

role_of_b : (identifier first second : List ℕ) → part 0 9 identifier ≡ first → part 9 9 identifier ≡ second → same_bytes first second ≡ false → original_role identifier second first ≡ some 1
unfolding original_role
role_of_b identifier first second p q d = rw (p, q, d, different first second d, sym (same_yes first), sym (same_yes second))

module _ (x : SessionRecord) (low : x.role ≤ 1) (differ : same_bytes (first_half x) (second_half x) ≡ false) where
  role_told : original_role x.identifier (sent_half x) (expected_half x) ≡ some x.role
  unfolding sent_half expected_half
  role_told = elim (ℕ_discrete x.role 0) [
    | yes e ↦ rw (eq-eqb _ _ e) (role_of_a x.identifier (first_half x) (second_half x) refl refl differ ∙ ap (λ n. some n) (sym e))
    | no e ↦ let one : 1 ≡ x.role = omega arith in rw (ne_eqb _ _ e) (role_of_b x.identifier (first_half x) (second_half x) refl refl differ ∙ ap (λ n. some n) one)
  ]

  module _ (own peer : List ℕ) (byte : ℕ) (s : Seen own peer byte x) where
    -- the record's own role, and the nonces, first that of the end whose original role was A
    abbrev pub its_terms : Terms
    its_terms =
        record {
          original = x.role;
          nonce_a = cond (eqb x.role 0) (nonce_by own s.mine) (nonce_by peer s.theirs);
          nonce_b = cond (eqb x.role 0) (nonce_by peer s.theirs) (nonce_by own s.mine);
        }

    by_options : terms_by (byte % 128) x.identifier own peer ≡ some its_terms
    unfolding terms_by carrying half_in nonce_in half_of keyed_by
    by_options =
        ap₂ (λ a b. carrying x.identifier own peer a b)
        (has_data (byte % 128) own s.mine s.own_whole s.own_well s.mine_is s.mine_resumes)
        (has_data (byte % 128) peer s.theirs s.peer_whole s.peer_well s.theirs_is s.theirs_resumes)
        ∙ ap (keyed_by (nonce_by own s.mine) (nonce_by peer s.theirs))
        (ap₂ (original_role x.identifier) s.mine_half s.theirs_half ∙ role_told)

    pub by_transcript : (role : ℕ) (t : List ℕ) → role ≤ 1 → of_a (eqb role 1) own peer ++ of_b (eqb role 1) own peer ≡ t → terms role (byte % 128) x.identifier t ≡ some its_terms
    unfolding terms of_a of_b
    by_transcript role t l e = elim (ℕ_discrete role 0) [
      | yes z ↦ subst (λ k. terms k (byte % 128) x.identifier t ≡ some its_terms) (sym z) (subst (λ v. terms 0 (byte % 128) x.identifier v ≡ some its_terms) (at_zero z) first)
      | no z ↦ let one : role ≡ 1 = omega arith in
          subst (λ k. terms k (byte % 128) x.identifier t ≡ some its_terms) (sym one) (subst (λ v. terms 1 (byte % 128) x.identifier v ≡ some its_terms) (at_one one) second)
    ]
      where
        at_zero : role ≡ 0 → own ++ peer ≡ t
        at_zero z = ap (λ k. cond (eqb k 1) peer own ++ cond (eqb k 1) own peer) (sym z) ∙ e

        at_one : role ≡ 1 → peer ++ own ≡ t
        at_one z = ap (λ k. cond (eqb k 1) peer own ++ cond (eqb k 1) own peer) (sym z) ∙ e

        first : terms 0 (byte % 128) x.identifier (own ++ peer) ≡ some its_terms
        first = ap₂ (λ a b. terms_by (byte % 128) x.identifier a b) (cut_a own peer s.own_whole) (cut_b own peer s.own_whole) ∙ by_options

        second : terms 1 (byte % 128) x.identifier (peer ++ own) ≡ some its_terms
        second = ap₂ (λ a b. terms_by (byte % 128) x.identifier a b) (cut_b peer own s.peer_whole) (cut_a peer own s.peer_whole) ∙ by_options
