-- Laws of the summary: what it says of an option, in the terms of document 01.
use Rattle.std.specs.Prelude.{ℕ, ◌+◌, ◌-◌, ◌≤◌, ◌<◌, ◌≡◌, List, ◌∷◌, Bool}
use Rattle.std.proofs.Common.{◌∙◌}
use Rattle.eno.specs.Suboption.{teps}
use Rattle.suboptions.specs.Summary.{ill_formed}
use Rattle.suboptions.specs.declared.Entry.{Entry}
use Rattle.suboptions.specs.declared.Summary.{Summary}

abbrev pub saying : Bool → ℕ → Bool → List Entry → Summary
saying ill role aware es = record { ill_formed = ill; role = role; aware = aware; teps = es }
