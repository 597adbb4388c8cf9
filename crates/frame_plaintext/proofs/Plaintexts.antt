-- Laws of plaintexts: each way out of writing and reading one. Assumes nothing.
use Prim.Native.Nat.{ℕ, suc, ◌+◌, ◌*◌, ◌/◌, ◌%◌, ◌≤◌, ◌<◌}
use mathlib.Core.Path.{◌≡◌, refl, sym, ◌∙◌, ap, ap₂}
use mathlib.Core.List.{List, [], ◌∷◌}
use mathlib.Core.Bool.{Bool, true, false}
use native.Mathlib.Omega.{arith}
use borrow.Author.Tests.{lt-ltb, le-ltb, eq-eqb, ne_eqb}
use lib.ListN.{length, get_or, length-append}
use Rattle.wire.specs.Bytes.{pasted}
use Rattle.wire.specs.ByteLaws.{pasted_twice}
use Rattle.wire.specs.Number.{big_endian, number_at}
use Rattle.wire.specs.NumberLaws.{length_big}
use Rattle.refusals.specs.Rows.{refusal}
use Rattle.frame_layout.specs.Layout as layout
use Rattle.frame_layout.specs.Layout.{bit0, bit1, most_plaintext, flags_sent, heading_length, heading}
use Rattle.frame_layout.proofs.LayoutLaws.{sent_urg}
use Rattle.frame_layout.specs.Outcome.{unless}
use Rattle.frame_layout.specs.Calls.{write_plaintext, read_plaintext, plaintext_in, plaintext_out, no_plaintext, outcome}
use Rattle.frame_layout.specs.Answers.{plaintext_written, plaintext_told}
use Rattle.frame_layout.specs.declared.PlaintextWriteRefusal.TheVariants as p
use Rattle.std.specs.Prelude.{Ok, Err}
use mir.Val.{bool_byte as from_bool}

pub flags_are : (fin urg : Bool) → from_bool fin + 2 * from_bool urg ≡ flags_sent fin urg
unfolding flags_sent
flags_are true true = refl
flags_are true false = refl
flags_are false true = refl
flags_are false false = refl

pub heading_long : (urg : Bool) → urg ≡ true → (3 ≡ heading_length urg) × (3 ≤ 3)
unfolding heading_length
heading_long urg e = (rw e, omega arith)

pub heading_short : (urg : Bool) → urg ≡ false → (1 ≡ heading_length urg) × (1 ≤ 3)
unfolding heading_length
heading_short urg e = (rw e, omega arith)

pub heading_three : (urg : Bool) → urg ≡ true → heading_length urg ≡ 3
unfolding heading_length
heading_three urg e = rw e

module _ (fin urg : Bool) (urgent : ℕ) where
  heading_urg : urg ≡ true → heading (flags_sent fin urg) urgent ≡ flags_sent fin urg ∷ big_endian 2 urgent
  unfolding heading
  heading_urg e = rw (sent_urg fin urg, e)

  heading_bare : urg ≡ false → heading (flags_sent fin urg) urgent ≡ flags_sent fin urg ∷ []
  unfolding heading
  heading_bare e = rw (sent_urg fin urg, e)

  pub heading_length_lem : length (heading (flags_sent fin urg) urgent) ≡ heading_length urg
  heading_length_lem = go urg refl
    where
      go : (b : Bool) → urg ≡ b → length (heading (flags_sent fin urg) urgent) ≡ heading_length urg
      go true e = ap length (heading_urg e) ∙ (ap suc (length_big 2 urgent) ∙ sym (heading_three urg e))
      go false e = ap length (heading_bare e) ∙ (heading_short urg e).0

  module _ (s t : List ℕ) (flags : ℕ) (sent : flags ≡ flags_sent fin urg) where
    pub put_urg : urg ≡ true → t ≡ pasted s 0 (flags ∷ big_endian 2 urgent) → t ≡ pasted s 0 (heading (flags_sent fin urg) urgent)
    put_urg e q = q ∙ ap (pasted s 0) (ap (λ x. x ∷ big_endian 2 urgent) sent ∙ sym (heading_urg e))

    pub put_bare : urg ≡ false → t ≡ pasted s 0 (flags ∷ []) → t ≡ pasted s 0 (heading (flags_sent fin urg) urgent)
    put_bare e q = q ∙ ap (pasted s 0) (ap (λ x. x ∷ []) sent ∙ sym (heading_bare e))

  -- writing a plaintext
  module _ (payload s : List ℕ) where
    abbrev whole : List ℕ
    whole = layout.plaintext (flags_sent fin urg) urgent payload

    plaintext_length : length whole ≡ heading_length urg + length payload
    unfolding layout.plaintext
    plaintext_length = length-append (heading (flags_sent fin urg) urgent) payload ∙ ap (λ n. n + length payload) heading_length_lem

    plaintext_pasted : (n : ℕ) (t u : List ℕ) → n ≡ heading_length urg → n + length payload ≤ length s → t ≡ pasted s 0 (heading (flags_sent fin urg) urgent) → u ≡ pasted t n payload → u ≡ pasted s 0 whole
    unfolding layout.plaintext
    plaintext_pasted n t u long room q d =
        let k = heading_length_lem in
        let x : n ≡ 0 + length (heading (flags_sent fin urg) urgent) = omega arith in
        d ∙ (ap₂ (λ l i. pasted l i payload) q x ∙ pasted_twice s (heading (flags_sent fin urg) urgent) payload 0 (omega arith))

    module _ (n : ℕ) (long : n ≡ heading_length urg) where
      pub plaintext_over : length s < n + length payload → plaintext_written (Err p.NoRoom) s ≡ outcome (write_plaintext fin urg urgent payload s)
      unfolding outcome unless refusal
      plaintext_over h = let over : length s < length whole = omega (arith, plaintext_length) in rw (lt-ltb _ _ over)

      module _ (room : n + length payload ≤ length s) where
        pub plaintext_long : 65519 < n + length payload → plaintext_written (Err p.TooLong) s ≡ outcome (write_plaintext fin urg urgent payload s)
        unfolding outcome unless refusal most_plaintext
        plaintext_long h =
            let fits : length whole ≤ length s = omega (arith, plaintext_length) in
            let over : 65519 < length whole = omega (arith, plaintext_length) in
            rw (le-ltb _ _ fits, lt-ltb _ _ over)

        pub plaintext_put : n + length payload ≤ 65519 → (t u : List ℕ) (m : ℕ) → m ≡ n + length payload → t ≡ pasted s 0 (heading (flags_sent fin urg) urgent) → u ≡ pasted t n payload
            → plaintext_written (Ok m) u ≡ outcome (write_plaintext fin urg urgent payload s)
        unfolding outcome unless refusal most_plaintext plaintext_out
        plaintext_put h t u m e q d =
            let fits : length whole ≤ length s = omega (arith, plaintext_length) in
            let short : length whole ≤ 65519 = omega (arith, plaintext_length) in
            let x : m ≡ length whole = omega (arith, plaintext_length) in
            ap₂ (λ y l. plaintext_written (Ok y) l) x (plaintext_pasted n t u long room q d) ∙ (rw (le-ltb _ _ fits, le-ltb _ _ short))

-- reading a plaintext
module _ (s : List ℕ) where
  pub plaintext_none : length s ≡ 0 → plaintext_told (Err (record {})) ≡ outcome (read_plaintext s)
  unfolding outcome unless refusal no_plaintext
  plaintext_none e = rw (eq-eqb _ _ e)

  module _ (some : length s ≡ 0 → ⊥) where
    pub plaintext_bare : (get_or s 0 0 / 2 % 2 ≡ 1 → ⊥) → plaintext_told (Ok (record { fin = bit0 (get_or s 0 0); urg = false; urgent = 0; data_at = 1 })) ≡ outcome (read_plaintext s)
    unfolding outcome unless refusal no_plaintext plaintext_in heading_length bit1
    plaintext_bare h = simp (ne_eqb _ _ some, ne_eqb _ _ h)

    module _ (urg : get_or s 0 0 / 2 % 2 ≡ 1) where
      pub plaintext_short : length s < 3 → plaintext_told (Err (record {})) ≡ outcome (read_plaintext s)
      unfolding outcome unless refusal no_plaintext bit1
      plaintext_short h = simp (ne_eqb _ _ some, eq-eqb _ _ urg, lt-ltb _ _ h)

      pub plaintext_urg : 3 ≤ length s → (urgent : ℕ) → urgent ≡ number_at 2 s 1 → plaintext_told (Ok (record { fin = bit0 (get_or s 0 0); urg = true; urgent = urgent; data_at = 3 })) ≡ outcome (read_plaintext s)
      unfolding outcome unless refusal no_plaintext plaintext_in heading_length bit1
      plaintext_urg h urgent e = simp (ne_eqb _ _ some, eq-eqb _ _ urg, le-ltb _ _ h, e)
