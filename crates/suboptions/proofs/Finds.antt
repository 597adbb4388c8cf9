-- Change request (ii): what one walk of an option finds, in document 01's words. Assumes nothing.
use Rattle.std.specs.Prelude.{ℕ, ◌+◌, ◌-◌, ◌≤◌, ◌<◌, ◌≡◌, refl, List, [], ◌∷◌, true, length, get_or}
use Rattle.std.proofs.Common.{sym, ◌∙◌, ap, subst, inl}
use Rattle.wire.specs.Bytes.{part}
use Rattle.eno.specs.Suboption.{Sent, tep}
use Rattle.eno.specs.Tep.{is_known}
use Rattle.eno.specs.Judge.{named, teps_of}
use Rattle.eno.specs.Option.{tep_with}
use Rattle.eno.specs.Content.{content_of}
use Rattle.eno.specs.Laws.Teps.{In}
use Rattle.eno.proofs.Laws.Teps.{in_every}
use Rattle.eno.proofs.Laws.Tests.{known_range, named_there}
use Rattle.suboption.specs.Within.{Within, teps_within}
use Rattle.suboptions.specs.Summary.{never, entry_from, entries_of, ill_formed, summary_of}
use Rattle.suboptions.proofs.Laws.{summary_says, summary_beyond, entry_of_lem, entry_times, entry_once}
use Rattle.suboptions.specs.declared.Entry.{Entry}
use Rattle.suboptions.specs.Finds.{FindsTep, Finds}

module _ (o : List ℕ) where
  -- one that was sent, by its own byte and data
  sent_within : (t : ℕ) (x : Sent) → named t (teps_of o) ≡ x ∷ []
      → (content_of o (tep x) ≡ tep_with x.counted x.byte (part x.start x.len o)) × (x.start + x.len ≤ length o)
  unfolding content_of
  sent_within t x q = (refl, in_every (Within o) (teps_of o) (teps_within o) x (named_there t (teps_of o) x (subst (In x) (sym q) (inl refl))).0)

  finds_tep : (t : ℕ) → is_known t ≡ true → FindsTep o t (get_or (entries_of (teps_of o)) (t - 0x21) never)
  finds_tep t k =
      let r = known_range t k in
      let is = entry_of_lem (teps_of o) t r.0 r.1 in
      record {
        times_is = ap (λ (e : Entry). e.times) is ∙ entry_times (named t (teps_of o));
        once_is = λ x q. subst (λ (e : Entry). (content_of o (tep x) ≡ tep_with x.counted e.byte (part e.start e.len o)) × (e.start + e.len ≤ length o))
            (sym (is ∙ (ap (entry_from never) q ∙ entry_once x))) (sent_within t x q);
      }

  -- of any bytes that an option can have: its length stands in one byte
  pub walk_finds : length o ≤ 255 → Finds o (summary_of o)
  walk_finds h = subst (Finds o) (sym (summary_says o h)) (record { ill = refl; role_is = refl; aware_is = refl; each = finds_tep })

  -- more bytes are no option, and told as ill-formed
  pub walk_beyond : 255 < length o → summary_of o ≡ ill_formed
  walk_beyond h = summary_beyond o h
