-- Reading means the layout, whatever the reserved bits, and what is written is read back. Assumes nothing.
use Rattle.std.specs.Prelude.{ℕ, ◌+◌, ◌^◌, ◌≤◌, ◌<◌, ◌≡◌, refl, List, [], ◌∷◌, ◌++◌, Bool, false, ◌↔◌, ltb, get_or, drop, replicate}
use Rattle.std.proofs.Common.{sym, ◌∙◌, ap₂, subst, true≢false}
use Rattle.std.proofs.Math.Path.{ap}
use Rattle.std.proofs.Math.Bool.{true}
use native.Mathlib.Omega.{arith}
use borrow.Author.Tests.{le-ltb, ltb-false, eq-eqb, ne_eqb}
use Rattle.std.proofs.Math.ListN.{length}
use Rattle.wire.specs.Bytes.{Bytes, bytes_from, pasted, part}
use Rattle.wire.specs.ByteLaws.{pasted_fits, part_pasted}
use Rattle.wire.specs.Number.{big_endian, number, number_at}
use Rattle.wire.specs.NumberLaws.{number_big_whole, big_number, number_lt}
use Rattle.refusals.specs.Rows.{refusal}
use Rattle.frame_layout.specs.Layout as layout
use Rattle.frame_layout.specs.Layout.{bit0, bit1, control_sent, associated, next_offset, no_frame, least_length, most_length, most_offset, most_plaintext, flags_sent, heading_length, heading}
use Rattle.frame_layout.proofs.LayoutLaws.{sent_rekey, sent_fin, sent_urg, frame_fits}
use Rattle.frame_layout.specs.Outcome.{refused, begins, written, Outcome, unless}
use Rattle.frame_layout.specs.Calls.{next, write_header, read_header, write_plaintext, read_plaintext, length_in, header_in, header_out, plaintext_in, plaintext_out, no_plaintext, outcome}
use Rattle.frame_layout.specs.Reading.{header_given, IsHeader, plaintext_given, IsPlaintext, ReadsBack}

pub layout_read : (control clen : ℕ) (rest : List ℕ) (offset : ℕ) → no_frame offset clen ≡ false
    → outcome (read_header (layout.header control clen ++ rest) offset) ≡ header_given (bit0 control) clen (next_offset offset clen) (layout.header control clen)
unfolding outcome unless refusal length_in header_in associated part number_at bytes_from layout.header big_endian
layout_read control clen rest offset e =
    let q : clen < 256 ^ 2 = omega (arith, frame_fits offset clen e) in
    let l : number (big_endian 2 clen) ≡ clen = number_big_whole 2 clen q in
    let room : 3 ≤ length (layout.header control clen ++ rest) = omega arith in
    rw (l, e, le-ltb _ _ room)

-- a reader that gives something was not refused
given_header : (a b : Bool) (x : Outcome) (rekey : Bool) (clen after : ℕ) (bytes : List ℕ) → unless (refusal ((a, 9) ∷ (b, 11) ∷ [])) (replicate 3 0) [] x ≡ header_given rekey clen after bytes
    → (a ≡ false) × (b ≡ false) × (x ≡ header_given rekey clen after bytes)
unfolding unless refusal
given_header true b x rekey clen after bytes e = let q = ap (λ (o : Outcome). o.reply) e in let z : ◌≡◌ {A = ℕ} 0 1 = cc in absurd (omega arith)
given_header false true x rekey clen after bytes e = let q = ap (λ (o : Outcome). o.reply) e in let z : ◌≡◌ {A = ℕ} 0 1 = cc in absurd (omega arith)
given_header false false x rekey clen after bytes e = (refl, refl, e)

header_at : (s : List ℕ) (offset : ℕ) → Bytes s → 3 ≤ length s → no_frame offset (length_in s) ≡ false → (rekey : Bool) (clen after : ℕ) (bytes : List ℕ)
    → header_in s offset ≡ header_given rekey clen after bytes → IsHeader s offset rekey clen after bytes
unfolding length_in header_in associated part number_at bytes_from layout.header
header_at [] offset b h f rekey clen after bytes e = absurd (omega arith)
header_at (c ∷ []) offset b h f rekey clen after bytes e = absurd (omega arith)
header_at (c ∷ x ∷ []) offset b h f rekey clen after bytes e = absurd (omega arith)
header_at (c ∷ x ∷ y ∷ rest) offset b h f rekey clen after bytes e =
    let q = ap (λ (o : Outcome). o.reply) e in
    let kept = ap (λ (o : Outcome). o.bytes) e in
    let same : number (x ∷ y ∷ []) ≡ clen = cc in
    let two : big_endian 2 clen ≡ x ∷ y ∷ [] = ap (big_endian 2) (sym same) ∙ big_number (x ∷ y ∷ []) (b.1.0, (b.1.1.0, tt)) in
    record {
      control = c;
      rest = rest;
      layout_is = ap (λ l. c ∷ l ++ rest) (sym two);
      bit = cc;
      as_received = sym kept ∙ ap (λ l. c ∷ l) (sym two);
      fits = ap (no_frame offset) (sym same) ∙ f;
      ends = let r : next_offset offset (number (x ∷ y ∷ [])) ≡ after = cc in sym r ∙ ap (next_offset offset) same;
    }

header_is : (s : List ℕ) (offset : ℕ) → Bytes s → (rekey : Bool) (clen after : ℕ) (bytes : List ℕ)
    → outcome (read_header s offset) ≡ header_given rekey clen after bytes → IsHeader s offset rekey clen after bytes
unfolding outcome
header_is s offset b rekey clen after bytes e =
    let g = given_header (ltb (length s) 3) (no_frame offset (length_in s)) (header_in s offset) rekey clen after bytes e in
    header_at s offset b (ltb-false _ _ g.0) g.1 rekey clen after bytes g.2

-- a header is read exactly where its layout stands
pub header_means : (s : List ℕ) (offset : ℕ) → Bytes s → (rekey : Bool) (clen after : ℕ) (bytes : List ℕ)
    → (outcome (read_header s offset) ≡ header_given rekey clen after bytes) ↔ IsHeader s offset rekey clen after bytes
header_means s offset b rekey clen after bytes = (
  header_is s offset b rekey clen after bytes,
  λ h.
      ap (λ l. outcome (read_header l offset)) h.layout_is
      ∙ (layout_read h.control clen h.rest offset h.fits
      ∙ (λ i. header_given (sym h.bit i) clen (sym h.ends i) (sym h.as_received i))),
)

-- a header that was written is read back, with its own bytes as associated data
wrote_header : (a b : Bool) (x : Outcome) (s : List ℕ) (after : ℕ) → (unless (refusal ((a, 5) ∷ (b, 11) ∷ [])) [] s x).reply ≡ begins after
    → (a ≡ false) × (b ≡ false)
unfolding unless refusal
wrote_header true b x s after e = let z : ◌≡◌ {A = ℕ} 0 1 = cc in absurd (omega arith)
wrote_header false true x s after e = let z : ◌≡◌ {A = ℕ} 0 1 = cc in absurd (omega arith)
wrote_header false false x s after e = (refl, refl)

header_left : (rekey : Bool) (clen offset : ℕ) (s : List ℕ) → 3 ≤ length s → no_frame offset clen ≡ false
    → (outcome (write_header rekey clen offset s)).buffer ≡ pasted s 0 (layout.header (control_sent rekey) clen)
unfolding outcome unless refusal header_out
header_left rekey clen offset s room e = rw (le-ltb _ _ room, e)

three_bytes : (control clen : ℕ) → length (layout.header control clen) ≡ 3
unfolding layout.header big_endian
three_bytes control clen = refl

pub header_read_back : (rekey : Bool) (clen offset : ℕ) (s : List ℕ) (after : ℕ) → (outcome (write_header rekey clen offset s)).reply ≡ begins after
    → outcome (read_header (outcome (write_header rekey clen offset s)).buffer offset) ≡ header_given rekey clen (next_offset offset clen) (layout.header (control_sent rekey) clen)
unfolding outcome
header_read_back rekey clen offset s after e = go (wrote_header (ltb (length s) 3) (no_frame offset clen) (header_out rekey clen offset s) s after e)
  where
    v : List ℕ
    v = layout.header (control_sent rekey) clen

    go : (ltb (length s) 3 ≡ false) × (no_frame offset clen ≡ false) → outcome (read_header (outcome (write_header rekey clen offset s)).buffer offset) ≡ header_given rekey clen (next_offset offset clen) v
    go g =
        let room : 3 ≤ length s = ltb-false _ _ g.0 in
        ap (λ l. outcome (read_header l offset)) (header_left rekey clen offset s room g.1 ∙ pasted_fits s 0 v (omega (arith, three_bytes (control_sent rekey) clen)))
        ∙ (layout_read (control_sent rekey) clen (drop (0 + length v) s) offset g.1
        ∙ ap (λ b. header_given b clen (next_offset offset clen) v) (sent_rekey rekey))

-- the two ways to read a plaintext
module _ (s : List ℕ) where
  read_bare : (length s ≡ 0 → ⊥) → bit1 (get_or s 0 0) ≡ false → outcome (read_plaintext s) ≡ plaintext_given (bit0 (get_or s 0 0)) false 0 1
  unfolding outcome unless refusal no_plaintext plaintext_in heading_length
  read_bare h e = simp (ne_eqb _ _ h, e)

  read_urgent : bit1 (get_or s 0 0) ≡ true → 3 ≤ length s → outcome (read_plaintext s) ≡ plaintext_given (bit0 (get_or s 0 0)) true (number_at 2 s 1) 3
  unfolding outcome unless refusal no_plaintext plaintext_in heading_length
  read_urgent e h = let some : length s ≡ 0 → ⊥ = λ z. omega arith in simp (ne_eqb _ _ some, e, le-ltb _ _ h)

-- the two layouts
module _ (flags urgent : ℕ) (payload : List ℕ) where
  bare_layout : bit1 flags ≡ false → layout.plaintext flags urgent payload ≡ flags ∷ payload
  unfolding layout.plaintext heading
  bare_layout e = rw e

  urgent_layout : bit1 flags ≡ true → layout.plaintext flags urgent payload ≡ flags ∷ big_endian 2 urgent ++ payload
  unfolding layout.plaintext heading
  urgent_layout e = rw e

  urgent_read : bit1 flags ≡ true → urgent < 256 ^ 2 → outcome (read_plaintext (flags ∷ big_endian 2 urgent ++ payload)) ≡ plaintext_given (bit0 flags) true urgent 3
  unfolding number_at bytes_from big_endian
  urgent_read e h =
      let room : 3 ≤ length (flags ∷ big_endian 2 urgent ++ payload) = omega arith in
      read_urgent (flags ∷ big_endian 2 urgent ++ payload) e room ∙ ap (λ n. plaintext_given (bit0 flags) true n 3) (number_big_whole 2 urgent h)

  at_three : (b : Bool) → b ≡ true → plaintext_given (bit0 flags) true urgent 3 ≡ plaintext_given (bit0 flags) b urgent (heading_length b)
  unfolding heading_length
  at_three b e = rw e

  at_one : (b : Bool) → b ≡ false → urgent ≡ 0 → plaintext_given (bit0 flags) false 0 1 ≡ plaintext_given (bit0 flags) b urgent (heading_length b)
  unfolding heading_length
  at_one b e z = rw (e, z)

  -- whatever the reserved bits
  pub layout_plaintext : urgent < 256 ^ 2 → (bit1 flags ≡ false → urgent ≡ 0)
      → outcome (read_plaintext (layout.plaintext flags urgent payload)) ≡ plaintext_given (bit0 flags) (bit1 flags) urgent (heading_length (bit1 flags))
  layout_plaintext h no-urgent = go (bit1 flags) refl
    where
      go : (b : Bool) → bit1 flags ≡ b → outcome (read_plaintext (layout.plaintext flags urgent payload)) ≡ plaintext_given (bit0 flags) (bit1 flags) urgent (heading_length (bit1 flags))
      go true e = ap (λ l. outcome (read_plaintext l)) (urgent_layout e) ∙ (urgent_read e h ∙ at_three (bit1 flags) e)
      go false e = ap (λ l. outcome (read_plaintext l)) (bare_layout e) ∙ (read_bare (flags ∷ payload) (λ z. omega arith) e ∙ at_one (bit1 flags) e (no-urgent e))

-- a reader that gives something was not refused
given_plaintext : (a : Bool) (x : Outcome) (fin urg : Bool) (urgent at : ℕ) → unless (refusal ((a, 12) ∷ [])) [] [] x ≡ plaintext_given fin urg urgent at → (a ≡ false) × (x ≡ plaintext_given fin urg urgent at)
unfolding unless refusal
given_plaintext true x fin urg urgent at e = let q = ap (λ (o : Outcome). o.reply) e in let z : ◌≡◌ {A = ℕ} 0 1 = cc in absurd (omega arith)
given_plaintext false x fin urg urgent at e = (refl, e)

bare_at : (s : List ℕ) → Bytes s → (length s ≡ 0 → ⊥) → bit1 (get_or s 0 0) ≡ false → (fin urg : Bool) (urgent at : ℕ)
    → plaintext_given (bit0 (get_or s 0 0)) false 0 1 ≡ plaintext_given fin urg urgent at → IsPlaintext s fin urg urgent at
unfolding heading_length
bare_at [] b h e fin urg urgent at p = absurd (h refl)
bare_at (f ∷ s) b h e fin urg urgent at p =
    let q = ap (λ (o : Outcome). o.reply) p in
    let first : bit0 f ≡ fin = cc in
    let second : false ≡ urg = cc in
    let third : 0 ≡ urgent = cc in
    let fourth : 1 ≡ at = cc in
    record {
      flags = f;
      layout_is = sym (ap (λ n. layout.plaintext f urgent (drop n (f ∷ s))) (sym fourth) ∙ bare_layout f urgent s e);
      fin_bit = sym first;
      urg_bit = sym second ∙ sym e;
      two_bytes = omega arith;
      absent = λ z. sym third;
      begins_at = sym fourth ∙ ap heading_length second;
    }

urgent_at : (s : List ℕ) → Bytes s → bit1 (get_or s 0 0) ≡ true → 3 ≤ length s → (fin urg : Bool) (urgent at : ℕ)
    → plaintext_given (bit0 (get_or s 0 0)) true (number_at 2 s 1) 3 ≡ plaintext_given fin urg urgent at → IsPlaintext s fin urg urgent at
unfolding heading_length number_at bytes_from
urgent_at [] b e h fin urg urgent at p = absurd (omega arith)
urgent_at (f ∷ []) b e h fin urg urgent at p = absurd (omega arith)
urgent_at (f ∷ x ∷ []) b e h fin urg urgent at p = absurd (omega arith)
urgent_at (f ∷ x ∷ y ∷ s) b e h fin urg urgent at p =
    let q = ap (λ (o : Outcome). o.reply) p in
    let first : bit0 f ≡ fin = cc in
    let second : true ≡ urg = cc in
    let third : number (x ∷ y ∷ []) ≡ urgent = cc in
    let fourth : 3 ≡ at = cc in
    let two : big_endian 2 urgent ≡ x ∷ y ∷ [] = ap (big_endian 2) (sym third) ∙ big_number (x ∷ y ∷ []) (b.1.0, (b.1.1.0, tt)) in
    let small = number_lt (x ∷ y ∷ []) (b.1.0, (b.1.1.0, tt)) in
    record {
      flags = f;
      layout_is = sym (ap (λ n. layout.plaintext f urgent (drop n (f ∷ x ∷ y ∷ s))) (sym fourth) ∙ (urgent_layout f urgent s e ∙ ap (λ l. f ∷ l ++ s) two));
      fin_bit = sym first;
      urg_bit = sym second ∙ sym e;
      two_bytes = subst (λ n. n < 256 ^ 2) third small;
      absent = λ z. absurd (true≢false (second ∙ z));
      begins_at = sym fourth ∙ ap heading_length second;
    }

plaintext_is : (s : List ℕ) → Bytes s → (fin urg : Bool) (urgent at : ℕ) → outcome (read_plaintext s) ≡ plaintext_given fin urg urgent at → IsPlaintext s fin urg urgent at
unfolding outcome no_plaintext
plaintext_is s b fin urg urgent at e = go (bit1 (get_or s 0 0)) (ltb (length s) 3) refl refl
  where
    g : (no_plaintext s ≡ false) × (plaintext_in s ≡ plaintext_given fin urg urgent at)
    g = given_plaintext (no_plaintext s) (plaintext_in s) fin urg urgent at e

    some_bytes : (length s ≡ 0 → ⊥)
    some_bytes z = absurd (true≢false (sym (rw (eq-eqb _ _ z)) ∙ g.0))

    go : (a c : Bool) → bit1 (get_or s 0 0) ≡ a → ltb (length s) 3 ≡ c → IsPlaintext s fin urg urgent at
    go false c p q = bare_at s b some_bytes p fin urg urgent at (sym (read_bare s some_bytes p) ∙ e)
    go true true p q = absurd (true≢false (sym (rw (ne_eqb _ _ some_bytes, p, q)) ∙ g.0))
    go true false p q = urgent_at s b p (ltb-false _ _ q) fin urg urgent at (sym (read_urgent s p (ltb-false _ _ q)) ∙ e)

-- a plaintext is read exactly where its layout stands
pub plaintext_means : (s : List ℕ) → Bytes s → (fin urg : Bool) (urgent at : ℕ)
    → (outcome (read_plaintext s) ≡ plaintext_given fin urg urgent at) ↔ IsPlaintext s fin urg urgent at
plaintext_means s b fin urg urgent at = (
  plaintext_is s b fin urg urgent at,
  λ h.
      ap (λ l. outcome (read_plaintext l)) h.layout_is
      ∙ (layout_plaintext h.flags urgent (drop at s) h.two_bytes (λ z. h.absent (h.urg_bit ∙ z))
      ∙ (λ i. plaintext_given (sym h.fin_bit i) (sym h.urg_bit i) urgent ((ap heading_length (sym h.urg_bit) ∙ sym h.begins_at) i))),
)

-- the bytes that were written are the plaintext
wrote_plaintext : (a b : Bool) (p s : List ℕ) (n : ℕ) → (unless (refusal ((a, 5) ∷ (b, 11) ∷ [])) [] s (plaintext_out p s)).reply ≡ written n
    → (a ≡ false) × (n ≡ length p) × ((unless (refusal ((a, 5) ∷ (b, 11) ∷ [])) [] s (plaintext_out p s)).buffer ≡ pasted s 0 p)
unfolding unless refusal plaintext_out
wrote_plaintext true b p s n e = let z : ◌≡◌ {A = ℕ} 0 1 = cc in absurd (omega arith)
wrote_plaintext false true p s n e = let z : ◌≡◌ {A = ℕ} 0 1 = cc in absurd (omega arith)
wrote_plaintext false false p s n e = (refl, cc, refl)

pub plaintext_sent : (fin urg : Bool) (urgent : ℕ) (payload s : List ℕ) (n : ℕ) → (outcome (write_plaintext fin urg urgent payload s)).reply ≡ written n
    → part 0 n (outcome (write_plaintext fin urg urgent payload s)).buffer ≡ layout.plaintext (flags_sent fin urg) urgent payload
unfolding outcome
plaintext_sent fin urg urgent payload s n e = go (wrote_plaintext (ltb (length s) (length p)) (ltb most_plaintext (length p)) p s n e)
  where
    p : List ℕ
    p = layout.plaintext (flags_sent fin urg) urgent payload

    go : (ltb (length s) (length p) ≡ false) × (n ≡ length p) × ((outcome (write_plaintext fin urg urgent payload s)).buffer ≡ pasted s 0 p)
        → part 0 n (outcome (write_plaintext fin urg urgent payload s)).buffer ≡ p
    go g =
        let room : length p ≤ length s = ltb-false _ _ g.0 in
        ap₂ (λ k l. part 0 k l) g.1 g.2 ∙ part_pasted s 0 p (omega arith)

reads_back : (fin urg : Bool) (urgent : ℕ) (payload : List ℕ) → urgent < 256 ^ 2 → ReadsBack fin urg urgent payload (layout.plaintext (flags_sent fin urg) urgent payload)
unfolding heading_length big_endian
reads_back fin true urgent payload h = record {
  gives =
      layout_plaintext (flags_sent fin true) urgent payload h (λ z. absurd (true≢false (sym (sent_urg fin true) ∙ z)))
      ∙ (λ i. plaintext_given (sent_fin fin true i) (sent_urg fin true i) urgent (heading_length (sent_urg fin true i)));
  payload_is = ap (drop 3) (urgent_layout (flags_sent fin true) urgent payload (sent_urg fin true));
}
reads_back fin false urgent payload h = record {
  gives =
      ap (λ l. outcome (read_plaintext l)) (bare_layout (flags_sent fin false) urgent payload (sent_urg fin false) ∙ sym (bare_layout (flags_sent fin false) 0 payload (sent_urg fin false)))
      ∙ (layout_plaintext (flags_sent fin false) 0 payload (omega arith) (λ z. refl)
      ∙ (λ i. plaintext_given (sent_fin fin false i) (sent_urg fin false i) 0 (heading_length (sent_urg fin false i))));
  payload_is = ap (drop 1) (bare_layout (flags_sent fin false) urgent payload (sent_urg fin false));
}

pub plaintext_read_back : (fin urg : Bool) (urgent : ℕ) → urgent < 256 ^ 2 → (payload s : List ℕ) (n : ℕ) → (outcome (write_plaintext fin urg urgent payload s)).reply ≡ written n
    → ReadsBack fin urg urgent payload (part 0 n (outcome (write_plaintext fin urg urgent payload s)).buffer)
plaintext_read_back fin urg urgent h payload s n e = subst (ReadsBack fin urg urgent payload) (sym (plaintext_sent fin urg urgent payload s n e)) (reads_back fin urg urgent payload h)

-- a frame at 75 with 17 bytes of ciphertext ends at 95 (document 01, the bench table)
pub next_at_95 : (outcome (next 75 17)).reply ≡ begins 95
unfolding outcome unless refusal no_frame next_offset least_length most_length most_offset
next_at_95 = refl

-- the last offset that a frame may end at, and one more
pub last_offset : (outcome (next 0xffffffffffffffeb 17)).reply ≡ begins 0xffffffffffffffff
unfolding outcome unless refusal no_frame next_offset least_length most_length most_offset
last_offset = refl

pub past_last_offset : (outcome (next 0xffffffffffffffec 17)).reply ≡ refused 11
unfolding outcome unless refusal no_frame next_offset least_length most_length most_offset
past_last_offset = refl
