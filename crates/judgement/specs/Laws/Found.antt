-- The judgement of two areas whose options were found, and which of the two is host A's and which host B's. Assumes nothing.
use Rattle.std.specs.Prelude.{ℕ, ◌≤◌, ◌≡◌, List, Bool, true, false, cond, ◌&&◌, ◌||◌, eqb, length}
use Rattle.std.proofs.Common.{ap, arith}
use Rattle.std.proofs.Math.Option.{Option}
use Rattle.eno.specs.Area.{finding, part_of, syn_option}
use Rattle.eno.specs.Cause.{numbered}
use Rattle.eno.specs.Suboption.{suboptions, is_ill_formed}
use Rattle.eno.specs.Judge.{of_a, of_b, Sides, plain, negotiate, first_of, role_of, aware_of, judge}
use Rattle.eno.proofs.Laws.Tests.{is_found}
use Rattle.eno.specs.declared.SessionRecord.{SessionRecord}

-- what this end judges by
abbrev pub sides_of : Option SessionRecord → (own peer : List ℕ) → Bool → Sides
sides_of hand own peer own_is_b = record { hand = hand; own = own; peer = peer; own_is_b = own_is_b }

module _ (mandatory : Bool) (hand : Option SessionRecord) (ownArea peerArea own peer : List ℕ) where
  -- both options found: reasons 3, 4 and 5, then what is negotiated
  pub after_found : own ≡ part_of ownArea (finding ownArea true) → peer ≡ part_of peerArea (finding peerArea true) → (length own ≡ 0 → ⊥) → (length peer ≡ 0 → ⊥)
      → judge mandatory hand ownArea peerArea
      ≡ cond (is_ill_formed (suboptions own) || is_ill_formed (suboptions peer)) (plain (numbered 3))
      (cond (eqb (role_of own) (role_of peer)) (plain (numbered 4))
      (cond (mandatory && eqb (aware_of peer) 0) (plain (numbered 5))
      (negotiate (role_of own) (sides_of hand own peer (eqb (role_of own) 1)))))
  unfolding judge first_of syn_option
  after_found eo ep own-some peer-some =
      let F = is_found ownArea own eo own-some in
      let G = is_found peerArea peer ep peer-some in
      rw (eo, ep) (simp (F.not_long, G.not_long, F.not_unreadable, G.not_unreadable, F.not_missing, G.not_missing))

-- one of two short options is short
pub short_a : (c : Bool) (own peer a : List ℕ) → a ≡ of_a c own peer → length own ≤ 40 → length peer ≤ 40 → length a ≤ 40
unfolding of_a
short_a true own peer a e h k = let l = ap length e in omega arith
short_a false own peer a e h k = let l = ap length e in omega arith

pub short_b : (c : Bool) (own peer b : List ℕ) → b ≡ of_b c own peer → length own ≤ 40 → length peer ≤ 40 → length b ≤ 40
unfolding of_b
short_b true own peer b e h k = let l = ap length e in omega arith
short_b false own peer b e h k = let l = ap length e in omega arith
