-- How an answer's option is judged: host B's, with one TEP.
use Rattle.std.specs.Prelude.{ℕ, ◌-◌, ◌%◌, ◌≤◌, ◌<◌, ◌≡◌, List, ◌∷◌, ◌++◌, Bool, true, ◌&&◌, eqb}
use Rattle.std.proofs.Common.{◌∙◌}
use Rattle.std.proofs.Math.Bool.{false}
use Rattle.std.proofs.Math.Option.{Option}
use Rattle.eno.specs.Area.{finding, syn_option}
use Rattle.eno.specs.Suboption.{suboptions, is_ill_formed}
use Rattle.eno.specs.Judge.{Sides, is_unreadable, is_missing, role_of, aware_of}
use Rattle.eno.specs.declared.SessionRecord.{SessionRecord}

pub record Accepts (mandatory : Bool) (area : List ℕ) : Type 0 where
  pub not_unreadable : is_unreadable (finding area true) ≡ false
  pub not_missing : is_missing (finding area true) ≡ false
  pub not_ill : is_ill_formed (suboptions (syn_option area)) ≡ false
  pub not_b : eqb (role_of (syn_option area)) 1 ≡ false
  pub aware_enough : mandatory && eqb (aware_of (syn_option area)) 0 ≡ false

-- what B judges by
abbrev pub as_b : Option SessionRecord → List ℕ → List ℕ → Sides
as_b hand own peer = record { hand = hand; own = own; peer = peer; own_is_b = true }
