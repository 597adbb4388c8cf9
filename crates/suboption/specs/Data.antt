-- Laws of what was sent of a TEP: fresh, resumption or bad, by its byte and its length. Assumes nothing.
use Rattle.std.specs.Prelude.{◌≤◌, ◌<◌, ◌≡◌, Bool, true, false, ltb, leb}
use Rattle.std.proofs.Common.{lt-ltb, le-ltb}
use Rattle.eno.specs.Suboption.{Sent}
use Rattle.eno.specs.Judge.{is_fresh, is_bad, is_resumption}

module _ (x : Sent) where
  pub fresh_bare : x.byte < 0x80 → true ≡ is_fresh x
  unfolding is_fresh
  fresh_bare h = simp (lt-ltb _ _ h)

  pub fresh_short : 0x80 ≤ x.byte → ltb x.len 9 ≡ is_fresh x
  unfolding is_fresh
  fresh_short h = simp (le-ltb _ _ h)

  module _ (b : Bool) (e : b ≡ is_fresh x) where
    pub bad_fresh : b ≡ true → false ≡ is_bad x
    unfolding is_bad
    bad_fresh t = simp (← e, t)

    pub bad_long : b ≡ false → leb 18 x.len ≡ is_bad x
    unfolding is_bad
    bad_long t = simp (← e, t)

    pub resumption_fresh : b ≡ true → false ≡ is_resumption x
    unfolding is_resumption
    resumption_fresh t = simp (← e, t)

    pub resumption_long : b ≡ false → ltb x.len 18 ≡ is_resumption x
    unfolding is_resumption
    resumption_long t = simp (← e, t)
