-- What the judge has seen where it says resumed: two whole options, each with one resumption suboption of that TEP, and their halves. Assumes nothing.
use Prim.Native.Nat.{ℕ, ◌+◌, ◌%◌, ◌≤◌, ◌<◌}
use Rattle.std.proofs.Math.Path.{◌≡◌}
use Rattle.std.proofs.Common.{◌∙◌}
use mathlib.Core.List.{List, [], ◌∷◌, ◌++◌}
use Rattle.std.proofs.Math.Bool.{true, false}
use Rattle.std.specs.Prelude.{◌&&◌, ◌||◌}
use Rattle.eno.specs.declared.SessionRecord.{SessionRecord}
use Rattle.eno.specs.Suboption.{Sent, suboptions, is_ill_formed}
use Rattle.eno.specs.Session.{sent_half, expected_half}
use Rattle.eno.specs.Tep.{is_known}
use Rattle.eno.specs.Judge.{is_resumption, half_of, named, teps_of}
use Rattle.key_terms.specs.Terms.{is_whole}

-- two options, this end's own and the other side's, by which the record x is resumed
pub record Seen (own peer : List ℕ) (byte : ℕ) (x : SessionRecord) : Type 0 where
  pub own_whole : is_whole own ≡ true
  pub peer_whole : is_whole peer ≡ true
  pub own_well : is_ill_formed (suboptions own) ≡ false
  pub peer_well : is_ill_formed (suboptions peer) ≡ false
  pub known : is_known (byte % 128) ≡ true
  pub mine : Sent
  pub theirs : Sent
  pub mine_is : named (byte % 128) (teps_of own) ≡ mine ∷ []
  pub theirs_is : named (byte % 128) (teps_of peer) ≡ theirs ∷ []
  pub mine_resumes : is_resumption mine ≡ true
  pub theirs_resumes : is_resumption theirs ≡ true
  pub mine_half : half_of own mine ≡ sent_half x
  pub theirs_half : half_of peer theirs ≡ expected_half x
