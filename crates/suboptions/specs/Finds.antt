-- Change request (ii): what one walk of an option finds, in document 01's words. Assumes nothing.
use Rattle.std.specs.Prelude.{ℕ, ◌+◌, ◌-◌, ◌≤◌, ◌<◌, ◌≡◌, List, [], ◌∷◌, true, eqb, length, get_or}
use Rattle.std.proofs.Common.{◌∙◌}
use Rattle.wire.specs.Bytes.{part}
use Rattle.eno.specs.Suboption.{Sent, tep, suboptions, is_ill_formed}
use Rattle.eno.specs.Tep.{is_known}
use Rattle.eno.specs.Judge.{named, teps_of, role_of, aware_of}
use Rattle.eno.specs.Option.{tep_with}
use Rattle.eno.specs.Content.{content_of}
use Rattle.suboptions.specs.Summary.{never, ill_formed}
use Rattle.suboptions.specs.declared.Entry.{Entry}
use Rattle.suboptions.specs.declared.Summary.{Summary}

-- what a walk finds of the TEP t of the option o
pub record FindsTep (o : List ℕ) (t : ℕ) (e : Entry) : Type 0 where
  -- how often it was sent
  pub times_is : e.times ≡ length (named t (teps_of o))
  -- and, if once, its byte with v, and its data: bytes that lie within the option
  pub once_is : (x : Sent) → named t (teps_of o) ≡ x ∷ []
      → (content_of o (tep x) ≡ tep_with x.counted e.byte (part e.start e.len o)) × (e.start + e.len ≤ length o)

-- what it finds of the option: whether it is ill-formed, b, a, and of each TEP that the unit knows how it was sent
pub record Finds (o : List ℕ) (s : Summary) : Type 0 where
  pub ill : s.ill_formed ≡ is_ill_formed (suboptions o)
  pub role_is : s.role ≡ role_of o
  pub aware_is : s.aware ≡ eqb (aware_of o) 1
  pub each : (t : ℕ) → is_known t ≡ true → FindsTep o t (get_or s.teps (t - 0x21) never)
